-- The positions of an expression: which may be read last, and what they tell. Assumes nothing.
use Rattle.std.specs.Prelude.{◌≡◌, ℕ, ◌+◌, Bool, true, false, ◌&&◌, ◌||◌, ◌⊎◌, ◌==◌}
use Rattle.patterns.specs.Language.{Language, Regex, atom, either, both, many, maybe, Joined, Repeated, Matches}

-- how many positions an expression has: its atoms, numbered from left to right
abbrev pub size : Regex → ℕ
size (atom holds) = 1
size (either l r) = size l + size r
size (both l r) = size l + size r
size (many r) = size r
size (maybe r) = size r

-- w can be read from the beginning of the expression, whose positions start at k, and p is read
-- last
abbrev pub Reads : ℕ → Regex → ℕ → Language
Reads k (atom holds) p w = (p ≡ k) × Matches (atom holds) w
Reads k (either l r) p w = Reads k l p w ⊎ Reads (k + size l) r p w
Reads k (both l r) p w = Reads k l p w ⊎ Joined (Matches l) (Reads (k + size l) r p) w
Reads k (many r) p w = Reads k r p w ⊎ Joined (Repeated (Matches r)) (Reads k r p) w
Reads k (maybe r) p w = Reads k r p w

-- the empty word is a word of the expression
abbrev pub nullable : Regex → Bool
nullable (atom holds) = false
nullable (either l r) = nullable l || nullable r
nullable (both l r) = nullable l && nullable r
nullable (many r) = nullable r
nullable (maybe r) = true

-- the set has a last position: a word may end where it was read last
abbrev pub ends : ℕ → Regex → (ℕ → Bool) → Bool
ends k (atom holds) set = set k
ends k (either l r) set = ends k l set || ends (k + size l) r set
ends k (both l r) set = (ends k l set && nullable r) || ends (k + size l) r set
ends k (many r) set = ends k r set
ends k (maybe r) set = ends k r set

-- the positions that b reads next: a first one where the expression may begin, or one that
-- follows a position of the set
abbrev pub step : ℕ → Regex → Bool → (ℕ → Bool) → ℕ → ℕ → Bool
step k (atom holds) begin set b p = p == k && (begin && holds b)
step k (either l r) begin set b p = step k l begin set b p || step (k + size l) r begin set b p
step k (both l r) begin set b p = step k l begin set b p
    || step (k + size l) r ((begin && nullable l) || ends k l set) set b p
step k (many r) begin set b p = step k r (begin || ends k r set) set b p
step k (maybe r) begin set b p = step k r begin set b p
