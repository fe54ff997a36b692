-- What the measured build and check answer. Assumes nothing.
use Rattle.std.specs.Prelude.{◌≡◌, ℕ, List, map, Ok, Err, Result}
use Rattle.ternary.specs.declared.refusal.Refusal.{Refusal}
use Rattle.ternary.specs.declared.words.StateNo.{StateNo}
use Rattle.ternary.specs.Refusals.{number}
use Rattle.automaton.specs.Limits.{Handed}
use Rattle.table.specs.Acceptance.{Checked}
use Rattle.builder.specs.Build.{BuildAnswer}

-- the state of that number
abbrev pub state_no : ℕ → StateNo
state_no n = record { 0 = n }

-- an automaton that is handed over in numbers
abbrev pub numbers_handed : ℕ → ℕ → List ℕ → List ℕ → Handed
numbers_handed states start successors classes = record { states = states; start = start; successors = map state_no successors; classes = classes }

-- the number for a build: the image's size, or the refusal's number
abbrev pub build_number : Result ℕ Refusal → ℕ
build_number (Ok size) = size
build_number (Err why) = number why

-- the number for a check: 0 if it accepts, or the refusal's number
abbrev pub check_number : Result (Unit {0}) Refusal → ℕ
check_number (Ok u) = 0
check_number (Err why) = number why

-- the number tells what a build answers
abbrev pub BuildTold : Handed → List ℕ → List ℕ → List ℕ → List ℕ → ℕ → Type 0
BuildTold a work work' out out' n = (r : Result ℕ Refusal) × BuildAnswer a work work' out out' r × (n ≡ build_number r)

-- the number tells what a check answers
abbrev pub CheckTold : Handed → List ℕ → ℕ → Type 0
CheckTold a bytes n = (r : Result (Unit {0}) Refusal) × Checked a bytes r × (n ≡ check_number r)
