-- An automaton with too many successors.
use Rattle.std.proofs.Common.{ℕ, ◌<◌, List, length, arith}
use Rattle.std.proofs.lemmas.List.{length-map}
use Rattle.automaton.specs.Limits.{Within}
use Rattle.measured.specs.Told.{numbers_handed, state_no}

-- it breaks a limit
pub too_many : (states start : ℕ) (successors classes : List ℕ) → 131072 < length successors → Within (numbers_handed states start successors classes) → ⊥
too_many states start successors classes more within =
    omega (arith, more, within.few, within.successors_count, length-map successors state_no)
