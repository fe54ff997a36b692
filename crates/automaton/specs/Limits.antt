-- An automaton as it is handed to calls, its limits, and the automaton that it means. Assumes nothing.
use Rattle.std.specs.Prelude.{◌≡◌, ℕ, ◌+◌, ◌*◌, ◌<◌, ◌≤◌, List, length, slice_index, slice_index_or}
use Rattle.std.specs.List.{AllByRecursion}
use Rattle.ternary.specs.declared.words.StateNo.{StateNo}
use Rattle.automaton.specs.declared.words.Automaton.{Automaton}
use Rattle.automaton.specs.Runs.{Dfa}

-- what is handed to a call: the number of states, the start state and what the two buffers hold
pub record Handed : Type 0 where
  pub states : ℕ
  pub start : ℕ
  pub successors : List StateNo
  pub classes : List ℕ

-- an automaton in lent buffers
abbrev pub handed : Automaton → Handed
handed a = record { states = a.states; start = a.start.0; successors = a.successors.now; classes = a.classes.now }

-- the limits: 1 to 512 states, the start and all successors below their number, 256 successors and one class a state
pub record Within (a : Handed) : Type 0 where
  pub some : 1 ≤ a.states
  pub few : a.states ≤ 512
  pub start_below : a.start < a.states
  pub successors_count : length a.successors ≡ 256 * a.states
  pub successors_below : AllByRecursion (λ s. s.0 < a.states) a.successors
  pub classes_count : length a.classes ≡ a.states

-- the automaton that is meant: the successor of the state s on the byte b stands at place 256 s + b
abbrev pub dfa : Handed → Dfa
dfa a = record { states = a.states; start = a.start; next = λ s b. (slice_index_or a.successors (256 * s + b) (record { 0 = 0 })).0; class = λ s. slice_index a.classes s }
