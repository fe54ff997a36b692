-- What compiling patterns answers and leaves. Assumes nothing.
use Rattle.std.specs.Prelude.{◌≡◌, ℕ, false, cond, List, [], ◌∷◌, Ok, Err, Result}
use Rattle.ternary.specs.declared.refusal.Refusal.{Refusal}
use Rattle.ternary.specs.Refusals.{number, values}
use Rattle.ternary.specs.declared.words.StateNo.{StateNo}
use Rattle.automaton.specs.declared.words.Header.{Header}
use Rattle.automaton.specs.File.{state_no, room_for}
use Rattle.patterns.specs.Subsets.{Automaton, automaton_of}
use Rattle.syntax.specs.declared.places.place.Place.{Place}
use Rattle.syntax.specs.Compile.{Outcome, outside, wrong_at, too_large, too_many_sets, built, compile, too_many, expressions, texts_of}
use Rattle.compiler.specs.Filled.{rows, classes}

-- what an answer tells: the header, or the number of a refusal and its values
abbrev pub Told : Type 0
Told = Result Header (ℕ × List ℕ)

abbrev pub told : Result Header Refusal → Told
told (Ok h) = Ok h
told (Err why) = Err (number why, values why)

-- the number of states and the start
abbrev pub header_of : Automaton → Header
header_of a = record { states = a.states; start = state_no 0 }

-- what is told of an outcome, by the lengths of the two buffers: the first refusal, a buffer that is
-- too short, or the header
abbrev pub answer_to : Outcome → ℕ → ℕ → Told
answer_to outside n m = Err (14, [])
answer_to (wrong_at pattern place) n m = Err (19, pattern ∷ place ∷ [])
answer_to too_large n m = Err (20, [])
answer_to too_many_sets n m = Err (21, [])
answer_to (built a) n m = cond (room_for a.states n m) (Ok (header_of a)) (Err (3, []))

-- the successors and the classes of an outcome
abbrev pub rows_of_outcome : Outcome → List StateNo
rows_of_outcome outside = []
rows_of_outcome (wrong_at pattern place) = []
rows_of_outcome too_large = []
rows_of_outcome too_many_sets = []
rows_of_outcome (built a) = rows a

abbrev pub classes_of_outcome : Outcome → List ℕ
classes_of_outcome outside = []
classes_of_outcome (wrong_at pattern place) = []
classes_of_outcome too_large = []
classes_of_outcome too_many_sets = []
classes_of_outcome (built a) = classes a

-- of patterns in a buffer
unfoldable pub compile_answer : List ℕ → List Place → ℕ → ℕ → Told
compile_answer buffer ps n m = answer_to (compile buffer ps) n m

unfoldable pub compiled_rows : List ℕ → List Place → List StateNo
compiled_rows buffer ps = rows_of_outcome (compile buffer ps)

unfoldable pub compiled_classes : List ℕ → List Place → List ℕ
compiled_classes buffer ps = classes_of_outcome (compile buffer ps)

-- the patterns were built: with at most 512 sets, the automaton of their expressions
pub record IsBuilt (buffer : List ℕ) (ps : List Place) : Type 0 where
  pub few : too_many (expressions (texts_of buffer ps)) ≡ false
  pub outcome : compile buffer ps ≡ built (automaton_of (expressions (texts_of buffer ps)))
