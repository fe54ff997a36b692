-- Regular expressions over bytes and their words. Assumes nothing.
use Rattle.std.specs.Prelude.{◌≡◌, ℕ, Bool, true, ◌⊎◌, List, [], ◌∷◌, ◌++◌}

-- a word is a list of bytes
abbrev pub Word : Type 0
Word = List ℕ

-- a language says of each word whether it belongs to it
abbrev pub Language : Type 1
Language = Word → Type 0

-- a class of bytes, one expression or another, one after another, one or more times, once or not
-- at all
pub data Regex : Type 0 where
  atom : (ℕ → Bool) → Regex
  either : Regex → Regex → Regex
  both : Regex → Regex → Regex
  many : Regex → Regex
  maybe : Regex → Regex

-- any number of times
abbrev pub star : Regex → Regex
star r = maybe (many r)

-- w is a word of the one language followed by a word of the other
pub record Joined (L M : Language) (w : Word) : Type 0 where
  pub front : Word
  pub back : Word
  pub whole : w ≡ front ++ back
  pub first : L front
  pub second : M back

-- w is one or more words of the language, one after another
pub data Repeated (L : Language) : Word → Type 0 where
  once : {w : Word} → L w → Repeated L w
  more : {w : Word} (u v : Word) → w ≡ u ++ v → Repeated L u → L v → Repeated L w

-- w is a word of the expression
abbrev pub Matches : Regex → Language
Matches (atom holds) w = (b : ℕ) × (w ≡ b ∷ []) × (holds b ≡ true)
Matches (either l r) w = Matches l w ⊎ Matches r w
Matches (both l r) w = Joined (Matches l) (Matches r) w
Matches (many r) w = Repeated (Matches r) w
Matches (maybe r) w = (w ≡ []) ⊎ Matches r w
