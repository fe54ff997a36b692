-- What the buffers hold: the successors of the states and their classes. Assumes nothing.
use Rattle.std.specs.Prelude.{ℕ, List, map}
use Rattle.std.specs.List.{range_with_len, flat_map}
use Rattle.ternary.specs.declared.words.StateNo.{StateNo}
use Rattle.automaton.specs.File.{state_no}
use Rattle.patterns.specs.Subsets.{Automaton}

-- the 256 successors of a state
abbrev pub row_of : Automaton → ℕ → List StateNo
row_of a s = map (λ b. state_no (a.next s b)) (range_with_len 0 256)

-- the successors of all states, state by state
abbrev pub rows : Automaton → List StateNo
rows a = flat_map (row_of a) (range_with_len 0 a.states)

-- the classes of all states
abbrev pub classes : Automaton → List ℕ
classes a = map a.class (range_with_len 0 a.states)
