-- Prefix words over one row of an automaton: the byte rule, and what it is to be a shortest list.
-- A decision is what a word leads to, of any type: a state, or whatever else a row has for a byte. Assumes nothing.
use Rattle.std.specs.Prelude.{◌≡◌, ℕ, ◌-◌, ◌/◌, ◌^◌, ◌<◌, ◌≤◌, Bool, cond, T, List, [], ◌∷◌, length, Some, None, Option, ◌==◌}
use Rattle.prefix.specs.declared.word.PrefixWord.{PrefixWord}

-- a word compares the first 0 to 8 bits of a byte with a value of that many bits
abbrev pub Formed : {D : Type 0} → PrefixWord D → Type 0
Formed w = (w.bits ≤ 8) × (w.value < 2 ^ w.bits)

-- a word matches a byte when the byte's first bits, as many as the word compares, are the word's value
abbrev pub matches : {D : Type 0} → PrefixWord D → ℕ → Bool
matches w byte = byte / 2 ^ (8 - w.bits) == w.value

-- the decision of the first word that matches
abbrev pub first : {D : Type 0} → List (PrefixWord D) → ℕ → Option D
first [] byte = None
first (w ∷ ws) byte = cond (matches w byte) (Some w.next) (first ws byte)

-- a byte is served by its own decision, or is left without a match where it is deferrable
abbrev pub Served : {D : Type 0} → D → Bool → Option D → Type 0
Served own deferrable None = T deferrable
Served own deferrable (Some next) = next ≡ own

-- the byte rule: every byte is served by the first word that matches it
abbrev pub ByteRule : {D : Type 0} → (ℕ → D) → (ℕ → Bool) → List (PrefixWord D) → Type 0
ByteRule row deferrable words = (byte : ℕ) → byte < 256 → Served (row byte) (deferrable byte) (first words byte)

-- a shortest list meets the byte rule, and every list of words that meets it has at least as many
pub record Shortest {D : Type 0} (words : List (PrefixWord D)) (row : ℕ → D) (deferrable : ℕ → Bool) : Type 0 where
  pub meets : ByteRule row deferrable words
  pub least : (others : List (PrefixWord D)) → ByteRule row deferrable others → length words ≤ length others

-- the least number of words: there is a shortest list, and every shortest list has so many
pub record Fewest {D : Type 0} (count : ℕ) (row : ℕ → D) (deferrable : ℕ → Bool) : Type 0 where
  pub words : List (PrefixWord D)
  pub shortest : Shortest words row deferrable
  pub counted : (others : List (PrefixWord D)) → Shortest others row deferrable → length others ≡ count
