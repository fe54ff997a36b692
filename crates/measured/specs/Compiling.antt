-- What a measured compiling tells. Assumes nothing.
use Rattle.std.specs.Prelude.{◌≡◌, ℕ, ◌*◌, List, fold, map, replicate, Ok, Err, Result}
use Rattle.std.specs.List.{range_with_len}
use Rattle.ternary.specs.declared.refusal.Refusal.{Refusal}
use Rattle.ternary.specs.declared.words.StateNo.{StateNo}
use Rattle.ternary.specs.Refusals.{number}
use Rattle.automaton.specs.declared.words.Header.{Header}
use Rattle.automaton.specs.File.{state_no, filled}
use Rattle.syntax.specs.declared.places.place.Place.{Place}
use Rattle.measured.specs.Feeds.{added}
use Rattle.compiler.specs.Compiled.{told, compile_answer, compiled_rows, compiled_classes}

-- 32 patterns of one length, one after another
abbrev pub places_of : ℕ → List Place
places_of len = map (λ i. record { start = i * len; len = len }) (range_with_len 0 32)

-- a sum with a successor more
abbrev pub state_added : ℕ → StateNo → ℕ
state_added sum s = added sum s.0

-- a sum with some successors, and with some classes
abbrev pub states_sum : List StateNo → ℕ → ℕ
states_sum ss sum = fold state_added sum ss

abbrev pub classes_sum : List ℕ → ℕ → ℕ
classes_sum cs sum = fold added sum cs

-- the sum over what both buffers hold, or the refusal's number
abbrev pub compile_sum : Result Header Refusal → List StateNo → List ℕ → ℕ
compile_sum (Ok h) successors classes = classes_sum classes (states_sum successors h.states)
compile_sum (Err why) successors classes = number why

-- the number tells what a compiling answers, into buffers of zeros for the largest automaton
pub record CompileTold (buffer : List ℕ) (len n : ℕ) : Type 0 where
  pub answer : Result Header Refusal
  pub is : told answer ≡ compile_answer buffer (places_of len) 131072 512
  pub sum : n ≡ compile_sum answer
      (filled answer (replicate 131072 (state_no 0)) (compiled_rows buffer (places_of len)))
      (filled answer (replicate 512 0) (compiled_classes buffer (places_of len)))
