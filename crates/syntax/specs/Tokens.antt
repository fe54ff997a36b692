-- The tokens of a pattern. Assumes nothing.
use Rattle.std.specs.Prelude.{ℕ, suc, ◌-◌, cond, List, [], ◌∷◌, take, Some, None, Option, ◌==◌}
use Rattle.syntax.specs.declared.class.mode.Mode.TheVariants.{Fresh}
use Rattle.syntax.specs.declared.token.Token.{Token}
use Rattle.syntax.specs.declared.token.Token.TheVariants.{Literal, Dot, Class, Open, Close, Bar, Star, Plus, Question, Broken}
use Rattle.syntax.specs.Class.{close_at, remains}

-- what a token means, apart from where it stands
pub data Sign : Type 0 where
  literal : ℕ → Sign
  dot : Sign
  class : List ℕ → Sign
  open_group : Sign
  close_group : Sign
  bar : Sign
  star : Sign
  plus : Sign
  question : Sign
  broken : Sign

-- the meaning of a token that borrows from a text
abbrev pub meaning : Token → Sign
meaning (Literal b) = literal b.now
meaning Dot = dot
meaning (Class text) = class text.now
meaning Open = open_group
meaning Close = close_group
meaning Bar = bar
meaning Star = star
meaning Plus = plus
meaning Question = question
meaning Broken = broken

-- a byte that stands for itself, or one of . ( ) | * + ? ]
abbrev pub plain : ℕ → Sign
plain b =
    cond (b == 46) dot (cond (b == 40) open_group (cond (b == 41) close_group (cond (b == 124) bar
    (cond (b == 42) star
    (cond (b == 43) plus (cond (b == 63) question (cond (b == 93) broken (literal b))))))))

-- a backslash and the byte that it means
abbrev pub escaped : List ℕ → Sign
escaped [] = broken
escaped (c ∷ text) = literal c

-- a bracket class that ends after n bytes: one of its bytes must remain
abbrev pub bracket : List ℕ → Option ℕ → Sign
bracket text None = broken
bracket text (Some n) = cond (remains (take (n - 1) text)) (class (take (n - 1) text)) broken

-- the first token of a text: 92 is the backslash, 91 the opening bracket
abbrev pub sign : List ℕ → Sign
sign [] = broken
sign (b ∷ text) = cond (b == 92) (escaped text)
    (cond (b == 91) (bracket text (close_at Fresh 0 text)) (plain b))

-- how many bytes a bracket class takes
abbrev pub bracket_width : Option ℕ → ℕ
bracket_width None = 1
bracket_width (Some n) = suc n

-- how many bytes the first token takes; a broken one at least one
abbrev pub escaped_width : List ℕ → ℕ
escaped_width [] = 1
escaped_width (c ∷ text) = 2

abbrev pub width_of : List ℕ → ℕ
width_of [] = 0
width_of (b ∷ text) = cond (b == 92) (escaped_width text)
    (cond (b == 91) (bracket_width (close_at Fresh 0 text)) 1)
