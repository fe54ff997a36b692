use Rattle.std.proofs.Common.{◌≡◌, ℕ, ◌<◌, ◌≤◌, cond, eqb}
use Rattle.forest.specs.Labels.{label}
use Rattle.forest.proofs.joining.relabel.Given as goal

-- the states so far have their new numbers, the others still the old ones
abbrev pub invariant-loop-label : goal.invariant-loop-label
invariant-loop-label l =
    ((k : ℕ) → k < l.label-index → label l.labels k ≡ cond (eqb (label l.initial.labels k) l.ended.0) l.to.0 (label l.initial.labels k))
    × ((k : ℕ) → l.label-index ≤ k → label l.labels k ≡ label l.initial.labels k)
