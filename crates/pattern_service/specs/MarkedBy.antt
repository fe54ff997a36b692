-- The marks that patterns give the bytes of an input. Assumes nothing.
use Rattle.std.specs.Prelude.{ℕ, List, [], ◌∷◌, ◌++◌, length}
use Rattle.ternary.specs.Marks.{Marked, mark}
use Rattle.patterns.specs.Language.{Word, Regex}
use Rattle.patterns.specs.Patterns.{Class}

-- the marks of some bytes that stand behind others: each byte has the class of the input that ends
-- right after it, which is the lowest pattern with a word that ends there, and no mark if none has
pub data MarkedBy (rs : List Regex) : Word → Word → List Marked → Type 0 where
  none_left : {before : Word} → MarkedBy rs before [] []
  one_more : {before bytes : Word} {ms : List Marked} (b class : ℕ)
      → Class rs (before ++ b ∷ []) class → MarkedBy rs (before ++ b ∷ []) bytes ms
      → MarkedBy rs before (b ∷ bytes) (mark (length before) class ++ ms)
