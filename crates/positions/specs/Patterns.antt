-- The positions of several patterns. Assumes nothing.
use Rattle.std.specs.Prelude.{◌≡◌, ℕ, ◌<◌, false, List, [], length, take, slice_index_or}
use Rattle.patterns.specs.Language.{Regex, atom}
use Rattle.patterns.specs.Patterns.{total}
use Rattle.positions.specs.declared.part.Part.{Part}
use Rattle.positions.specs.declared.build.Positions.{Positions}
use Rattle.positions.specs.Sets.{in_set}
use Rattle.positions.specs.Tables.{first_any, IsPart, AreTables}

-- the part at a place
abbrev pub part_at : List Part → ℕ → Part
part_at parts i =
    slice_index_or parts i
    (record { nullable = false; first = record { words = [] }; last = record { words = [] } })

-- the expression at a place
abbrev pub regex_at : List Regex → ℕ → Regex
regex_at rs i = slice_index_or rs i (atom (λ b. false))

-- the first parts are those of the first n expressions
abbrev pub AreParts : List Part → List Regex → ℕ → Type 0
AreParts parts rs n = (i : ℕ) → i < n
    → IsPart (part_at parts i) (total (take i rs)) (regex_at rs i)

-- the positions are those of the expressions
pub record ArePositions (p : Positions) (rs : List Regex) : Type 0 where
  pub of_tables : AreTables p.tables rs
  pub firsts : (q : ℕ) → in_set p.first q ≡ first_any 0 rs q
  pub patterns : p.count ≡ length rs
  pub of_parts : AreParts p.parts rs (length rs)
