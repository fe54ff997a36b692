-- What the measured build and check of two-byte images answer. Assumes nothing.
use Rattle.std.specs.Prelude.{◌≡◌, ℕ, List, Result}
use Rattle.ternary.specs.declared.refusal.Refusal.{Refusal}
use Rattle.automaton.specs.Limits.{Handed}
use Rattle.pair_table.specs.Acceptance.{Checked}
use Rattle.pair_builder.specs.Build.{BuildAnswer}
use Rattle.measured.specs.Told.{build_number, check_number}

-- the number tells what a build of a two-byte image answers
abbrev pub PairBuildTold : Handed → List ℕ → List ℕ → List ℕ → List ℕ → ℕ → Type 0
PairBuildTold a work work' out out' n = (r : Result ℕ Refusal) × BuildAnswer a work work' out out' r × (n ≡ build_number r)

-- the number tells what a check of a two-byte image answers
abbrev pub PairCheckTold : Handed → List ℕ → ℕ → Type 0
PairCheckTold a bytes n = (r : Result (Unit {0}) Refusal) × Checked a bytes r × (n ≡ check_number r)
