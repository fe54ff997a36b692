-- An automaton of at most 64 states that was read from a file. Assumes nothing.
use Rattle.std.specs.Prelude.{◌≡◌, ℕ, List, Ok, Err, Result, MatchResult}
use Rattle.ternary.specs.declared.refusal.Refusal.{Refusal}
use Rattle.automaton.specs.declared.words.Header.{Header}
use Rattle.automaton.specs.Laws.{held_in}
use Rattle.automaton.specs.Limits.{Handed, Within}
use Rattle.printed.specs.declared.reading.SmallAutomaton.{SmallAutomaton}
use Rattle.printed.specs.Lines.{automaton_in}

-- the automaton in the first places of its buffers
abbrev pub held : SmallAutomaton → Handed
held s = held_in s.header s.successors s.classes

-- reading a file that answers so gives its header and the automaton that the file says, which keeps its limits; or the refusal
abbrev pub ReadSmall : List ℕ → Result Header Refusal → SmallAutomaton → Result (Unit {0}) Refusal → Type 0
ReadSmall file (Ok h) s r = MatchResult r (λ _. (s.header ≡ h) × (held s ≡ automaton_in file) × Within (held s)) (λ _. ⊥)
ReadSmall file (Err e) s r = r ≡ Err e
