-- The grammar of patterns: the token lists that are patterns, and what they mean. Assumes nothing.
use Rattle.std.specs.Prelude.{◌≡◌, ℕ, true, List, [], ◌∷◌, ◌++◌, nat_eq}
use Rattle.patterns.specs.Language.{Regex, atom, either, both, many, maybe}
use Rattle.syntax.specs.Class.{holds}
use Rattle.syntax.specs.Tokens.{Sign, literal, dot, class, open_group, close_group, bar, star, plus, question}

-- what a token list is read as
pub data Level : Type 0 where
  a_pattern : Level
  a_branch : Level
  a_piece : Level
  an_atom : Level

-- ts is a pattern, a branch, a piece or an atom, and means the expression
pub data Parses : Level → List Sign → Regex → Type 0 where
  -- a pattern is a branch, or a pattern, a bar and a branch
  one_branch : {ts : List Sign} {r : Regex} → Parses a_branch ts r → Parses a_pattern ts r
  more_branches : {ts : List Sign} {l r : Regex} (us vs : List Sign) → ts ≡ us ++ (bar ∷ vs)
      → Parses a_pattern us l → Parses a_branch vs r → Parses a_pattern ts (either l r)
  -- a branch is a piece, or a branch and a piece
  one_piece : {ts : List Sign} {r : Regex} → Parses a_piece ts r → Parses a_branch ts r
  more_pieces : {ts : List Sign} {l r : Regex} (us vs : List Sign) → ts ≡ us ++ vs
      → Parses a_branch us l → Parses a_piece vs r → Parses a_branch ts (both l r)
  -- a piece is an atom, alone or with one of * + ?
  alone : {ts : List Sign} {r : Regex} → Parses an_atom ts r → Parses a_piece ts r
  starred : {ts : List Sign} {r : Regex} (us : List Sign) → ts ≡ us ++ (star ∷ [])
      → Parses an_atom us r → Parses a_piece ts (maybe (many r))
  repeated : {ts : List Sign} {r : Regex} (us : List Sign) → ts ≡ us ++ (plus ∷ [])
      → Parses an_atom us r → Parses a_piece ts (many r)
  optional : {ts : List Sign} {r : Regex} (us : List Sign) → ts ≡ us ++ (question ∷ [])
      → Parses an_atom us r → Parses a_piece ts (maybe r)
  -- an atom is a byte, a dot, a class or a pattern in parentheses
  byte : {ts : List Sign} (b : ℕ) → ts ≡ literal b ∷ [] → Parses an_atom ts (atom (nat_eq b))
  every : {ts : List Sign} → ts ≡ dot ∷ [] → Parses an_atom ts (atom (λ b. true))
  listed_in : {ts : List Sign} (text : List ℕ) → ts ≡ class text ∷ []
      → Parses an_atom ts (atom (holds text))
  group : {ts : List Sign} {r : Regex} (us : List Sign)
      → ts ≡ open_group ∷ (us ++ (close_group ∷ [])) → Parses a_pattern us r → Parses an_atom ts r

-- the tokens are a pattern
abbrev pub IsPattern : List Sign → Type 0
IsPattern ts = (r : Regex) × Parses a_pattern ts r
