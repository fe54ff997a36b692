-- When a forest is well formed. Assumes nothing.
use Rattle.std.proofs.Common.{◌≡◌, ℕ, ◌+◌, ◌*◌, ◌^◌, ◌<◌, ◌≤◌, Some, None, Option}
use Rattle.forest.specs.Forest.{Forest}
use Rattle.forest.specs.Deferment.{forest_of}
use Rattle.automaton.specs.Runs.{Dfa}

-- a root's prefix is its number; a child's number follows its parent's prefix, and is not 0
abbrev pub Follows : Forest → ℕ → Option ℕ → Type 0
Follows f s None = (f.number s < 2 ^ f.root_bits) × (f.prefix s ≡ f.number s) × (f.len s ≡ f.root_bits)
Follows f s (Some p) =
    (p < f.states) × (f.depth p < f.depth s) × (0 < f.number s) × (f.number s < 2 ^ f.bits p)
    × (f.prefix s ≡ f.prefix p * 2 ^ f.bits p + f.number s) × (f.len s ≡ f.len p + f.bits p)

-- each prefix follows from the parent's and fits the width, and no two roots or siblings have one number
pub record WellFormed (f : Forest) : Type 0 where
  pub follows : (s : ℕ) → s < f.states → Follows f s (f.parent s)
  pub fits : (s : ℕ) → s < f.states → f.len s ≤ f.width
  pub apart : (s t : ℕ) → s < f.states → t < f.states → f.parent s ≡ f.parent t → f.number s ≡ f.number t → s ≡ t

-- the forest of an automaton is well formed, and its codes fit 16 bits
pub record Fitting (a : Dfa) : Type 0 where
  pub states : (forest_of a).states ≡ a.states
  pub formed : WellFormed (forest_of a)
  pub narrow : a.states ≤ 2 ^ 16 → (forest_of a).width ≤ 16
