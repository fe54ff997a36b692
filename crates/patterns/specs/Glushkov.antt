-- First, last and following positions. Assumes nothing.
use Rattle.std.specs.Prelude.{◌≡◌, ℕ, ◌+◌, Bool, true, false, ◌&&◌, ◌||◌, ◌⊎◌, ◌==◌}
use Rattle.patterns.specs.Language.{Regex, atom, either, both, many, maybe}
use Rattle.patterns.specs.Positions.{size, nullable}

-- p may be read first
abbrev pub first : ℕ → Regex → ℕ → Bool
first k (atom holds) p = p == k
first k (either l r) p = first k l p || first (k + size l) r p
first k (both l r) p = first k l p || (nullable l && first (k + size l) r p)
first k (many r) p = first k r p
first k (maybe r) p = first k r p

-- a word may end at p
abbrev pub last : ℕ → Regex → ℕ → Bool
last k (atom holds) p = p == k
last k (either l r) p = last k l p || last (k + size l) r p
last k (both l r) p = (last k l p && nullable r) || last (k + size l) r p
last k (many r) p = last k r p
last k (maybe r) p = last k r p

-- p may be read right after q
abbrev pub follow : ℕ → Regex → ℕ → ℕ → Bool
follow k (atom holds) q p = false
follow k (either l r) q p = follow k l q p || follow (k + size l) r q p
follow k (both l r) q p =
    follow k l q p || (follow (k + size l) r q p || (last k l q && first (k + size l) r p))
follow k (many r) q p = follow k r q p || (last k r q && first k r p)
follow k (maybe r) q p = follow k r q p

-- the class of the position p holds b
abbrev pub holds_at : ℕ → Regex → ℕ → ℕ → Bool
holds_at k (atom holds) p b = p == k && holds b
holds_at k (either l r) p b = holds_at k l p b || holds_at (k + size l) r p b
holds_at k (both l r) p b = holds_at k l p b || holds_at (k + size l) r p b
holds_at k (many r) p b = holds_at k r p b
holds_at k (maybe r) p b = holds_at k r p b

-- p is a first position, where the expression may begin, or follows a position of the set
abbrev pub Reachable : ℕ → Regex → Bool → (ℕ → Bool) → ℕ → Type 0
Reachable k r begin set p = ((begin ≡ true) × (first k r p ≡ true))
    ⊎ ((q : ℕ) × (set q ≡ true) × (follow k r q p ≡ true))
