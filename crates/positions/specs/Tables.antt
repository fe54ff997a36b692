-- The tables of several expressions, one after another: first and following positions, and the
-- positions that each byte reads.
use Rattle.std.specs.Prelude.{◌≡◌, ℕ, ◌+◌, ◌<◌, Bool, true, false, ◌||◌, List, [], ◌∷◌, Some, None, Option, ◌==◌, slice_index_or}
use Rattle.patterns.specs.Language.{Regex}
use Rattle.patterns.specs.Positions.{size, nullable}
use Rattle.patterns.specs.Glushkov.{first, last, follow, holds_at}
use Rattle.patterns.specs.Patterns.{total}
use Rattle.syntax.specs.Class.{holds}
use Rattle.syntax.specs.Tokens.{Sign, literal, dot, class, open_group, close_group, bar, star, plus, question, broken}
use Rattle.positions.specs.declared.set.Set.{Set}
use Rattle.positions.specs.declared.part.Part.{Part}
use Rattle.positions.specs.declared.tables.Tables.{Tables}
use Rattle.positions.specs.Sets.{in_set}

-- one of the expressions, whose positions start at k, passes the test
abbrev pub any_part : (ℕ → Regex → Bool) → ℕ → List Regex → Bool
any_part test k [] = false
any_part test k (r ∷ rs) = test k r || any_part test (k + size r) rs

-- p may be read first in one of the expressions, whose positions start at k
abbrev pub first_any : ℕ → List Regex → ℕ → Bool
first_any k rs p = any_part (λ i r. first i r p) k rs

-- p may be read right after q in one of them
abbrev pub follow_any : ℕ → List Regex → ℕ → ℕ → Bool
follow_any k rs q p = any_part (λ i r. follow i r q p) k rs

-- the class of the position p holds b
abbrev pub holds_any : ℕ → List Regex → ℕ → ℕ → Bool
holds_any k rs p b = any_part (λ i r. holds_at i r p b) k rs

-- the sign of an atom reads the byte b
abbrev pub is_read : Sign → ℕ → Bool
is_read (literal c) b = c == b
is_read dot b = true
is_read (class text) b = holds text b
is_read open_group b = false
is_read close_group b = false
is_read bar b = false
is_read star b = false
is_read plus b = false
is_read question b = false
is_read broken b = false

-- the set at a place of a table
abbrev pub set_at : List Set → ℕ → Set
set_at sets place = slice_index_or sets place (record { words = [] })

-- the part says of the expression, whose positions start at k, whether it has the empty word, and
-- its first and last positions
pub record IsPart (part : Part) (k : ℕ) (r : Regex) : Type 0 where
  pub empty : part.nullable ≡ nullable r
  pub firsts : (p : ℕ) → in_set part.first p ≡ first k r p
  pub lasts : (p : ℕ) → in_set part.last p ≡ last k r p

-- the same where there may be none
abbrev pub IsOptional : Option Part → ℕ → Option Regex → Type 0
IsOptional None k None = Unit {0}
IsOptional None k (Some r) = ⊥
IsOptional (Some part) k None = ⊥
IsOptional (Some part) k (Some r) = IsPart part k r

-- the tables are those of the expressions, whose positions start at 0
pub record AreTables (t : Tables) (rs : List Regex) : Type 0 where
  pub positions : t.count ≡ total rs
  pub follows : (q : ℕ) → q < 256 → (p : ℕ) → in_set (set_at t.follow q) p ≡ follow_any 0 rs q p
  pub reads : (b : ℕ) → b < 256 → (p : ℕ) → in_set (set_at t.holds b) p ≡ holds_any 0 rs p b

-- an expression that may be absent, as a list
abbrev pub listed : Option Regex → List Regex
listed None = []
listed (Some r) = r ∷ []

-- how many positions it has
abbrev pub width : Option Regex → ℕ
width None = 0
width (Some r) = size r
