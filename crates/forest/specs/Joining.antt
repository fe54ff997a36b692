-- The trees that arrays hold, and the turns of pairs. Assumes nothing.
use Rattle.std.specs.Prelude.{◌≡◌, ℕ, ◌<◌, cond, ◌==◌}
use Rattle.forest.specs.declared.joining.Grove.{Grove}
use Rattle.forest.specs.Deferment.{Trees, join}
use Rattle.forest.specs.Labels.{grown}

-- what the turn of a pair makes of the trees: it is joined, or passed over if it is already connected
abbrev pub turn : Trees → ℕ × ℕ → Trees
turn f p = cond (f.tree p.0 == f.tree p.1) f (join f p.0 p.1)

-- the trees that a grove holds
unfoldable pub trees_in : Grove → Trees
trees_in g = grown g.labels g.joins

-- the states below n stand in one tree
abbrev pub OneTree : Trees → ℕ → Type 0
OneTree f n = (k : ℕ) → k < n → f.tree k ≡ f.tree 0
