-- What is proved of the syntax of patterns. Assumes nothing.
use Rattle.std.specs.Prelude.{◌≡◌, ℕ, ◌+◌, List, [], ◌∷◌, ◌++◌, length, Some, None, Option}
use Rattle.syntax.specs.Tokens.{Sign}
use Rattle.syntax.specs.Follow.{tokens, fault_of}
use Rattle.patterns.specs.Language.{Regex}
use Rattle.syntax.specs.Grammar.{IsPattern, a_pattern, Parses}
use Rattle.syntax.specs.Parse.{parse}

-- the tokens, apart from the bytes that they take
abbrev pub signs : List (Sign × ℕ) → List Sign
signs [] = []
signs (t ∷ ts) = t.0 ∷ signs ts

-- the bytes that the tokens take
abbrev pub widths : List (Sign × ℕ) → ℕ
widths [] = 0
widths (t ∷ ts) = t.1 + widths ts

-- some pattern begins with the tokens
abbrev pub Continues : List Sign → Type 0
Continues ts = (more : List Sign) × IsPattern (ts ++ more)

-- the place of the first token that cannot follow those before it, or of the end of tokens that
-- are no pattern yet
pub data FirstFault (ts : List (Sign × ℕ)) (place : ℕ) : Type 0 where
  at_token : (us : List (Sign × ℕ)) (t : Sign × ℕ) (vs : List (Sign × ℕ)) → ts ≡ us ++ (t ∷ vs)
      → place ≡ widths us → Continues (signs us) → (Continues (signs us ++ (t.0 ∷ [])) → ⊥)
      → FirstFault ts place
  at_end : place ≡ widths ts → Continues (signs ts) → (IsPattern (signs ts) → ⊥)
      → FirstFault ts place

-- a text without a fault is a pattern, and a fault stands at the first token that cannot follow,
-- or at the end
abbrev pub Judged : List (Sign × ℕ) → Option ℕ → Type 0
Judged ts None = IsPattern (signs ts)
Judged ts (Some place) = FirstFault ts place

abbrev pub SyntaxStands : Type 0
SyntaxStands = (text : List ℕ) → Judged (tokens (length text) text) (fault_of text)

-- the tokens take every byte of the text, so that their end is the text's end
abbrev pub TokensStand : Type 0
TokensStand = (text : List ℕ) → widths (tokens (length text) text) ≡ length text

-- the parse of a pattern is its expression, so that it has no other
abbrev pub ParseStands : Type 0
ParseStands = (ts : List Sign) (r : Regex) → Parses a_pattern ts r → parse ts ≡ Some r
