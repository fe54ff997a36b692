-- The amounts from which codes are worked out. Assumes nothing.
use Rattle.std.specs.Prelude.{◌≡◌, ℕ, zero, suc, ◌+◌, ◌*◌, ◌^◌, ◌<◌, List, length, Some, None, slice_index}
use Rattle.forest.specs.Codes.{Parents}
use Rattle.forest.specs.Forest.{Forest, rest}

-- there is an amount for each state of a forest, and these amounts are given by g
abbrev pub ForEach : Forest → List ℕ → (ℕ → ℕ) → Type 0
ForEach f amounts g = (length amounts ≡ f.states) × ((s : ℕ) → s < f.states → slice_index amounts s ≡ g s)

-- the part that the number of s has in codes: it ends where the prefix of s ends
abbrev pub part : Forest → ℕ → ℕ
part f s = f.number s * 2 ^ rest f s

-- the sum of the amounts of the states that s defers to; d is the depth of s, its steps to the root
abbrev pub sum_up : ℕ → Parents → List ℕ → ℕ → ℕ
sum_up zero parent amounts s = 0
sum_up (suc d) parent amounts s = elim (parent s) [
  | None ↦ 0
  | Some p ↦ slice_index amounts p + sum_up d parent amounts p
]

-- the same in a forest
abbrev pub sum_above : Forest → List ℕ → ℕ → ℕ
sum_above f amounts s = sum_up (f.depth s) f.parent amounts s
