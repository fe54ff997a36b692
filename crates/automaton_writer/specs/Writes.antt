-- What writing an automaton file answers and leaves, and what the reader makes of the file. Assumes
-- nothing.
use Rattle.std.specs.Prelude.{◌≡◌, ℕ, ◌*◌, ◌<◌, ◌≤◌, ◌⊎◌, List, [], length, Ok, Result, MatchResult}
use Rattle.ternary.specs.Refusals.{KnownBy}
use Rattle.ternary.specs.declared.refusal.Refusal.{Refusal}
use Rattle.fields.specs.Fields.{written}
use Rattle.automaton.specs.File.{state_no, decode, rows, classes, read_answer}
use Rattle.automaton.specs.Limits.{Handed, Within, dfa}
use Rattle.automaton_writer.specs.Filed.{file_of}

-- the automaton's file stands over the first bytes of the output, and its size is answered; or 1 is
-- answered of an automaton beyond the limits, and then 3 of an output that is too short, and the output
-- stays as it is
abbrev pub WriteAnswer : Handed → List ℕ → List ℕ → Result ℕ Refusal → Type 0
WriteAnswer a out out' answer =
    MatchResult answer
    (λ size. Within a × (size ≡ length (file_of (dfa a))) × (size ≤ length out)
    × (out' ≡ written out 0 (file_of (dfa a))))
    (λ why. (out' ≡ out) × ((KnownBy why 1 [] × (Within a → ⊥))
    ⊎ (KnownBy why 3 [] × Within a × (length out < length (file_of (dfa a))))))

-- the reader accepts the file wherever its buffers suffice, and reads back the same automaton
pub record ReadsBack (a : Handed) (file : List ℕ) : Type 0 where
  pub answer : (n m : ℕ) → 256 * a.states ≤ n → a.states ≤ m
      → read_answer file n m ≡ Ok (record { states = a.states; start = state_no a.start })
  pub successors : rows (decode file) ≡ a.successors
  pub classes : classes (decode file) ≡ a.classes
