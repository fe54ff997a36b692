-- Several patterns over one input: the positions read last, the class of an input. Assumes nothing.
use Rattle.std.specs.Prelude.{◌≡◌, ℕ, zero, suc, ◌+◌, Bool, true, false, cond, ◌||◌, ◌⊎◌, List, [], ◌∷◌, ◌++◌, slice_index_or}
use Rattle.patterns.specs.Language.{Word, Language, Regex, Joined, Matches}
use Rattle.patterns.specs.Positions.{size, Reads, nullable, ends, step}

-- ---- what the patterns mean

-- every word
abbrev pub Any : Language
Any w = Unit {0}

-- a word of the pattern, even the empty one, ends where the input ends
abbrev pub EndsHere : Regex → Word → Type 0
EndsHere r input = Joined Any (Matches r) input

-- the class of an input, with the patterns counted from i: the lowest pattern with a word that
-- ends here, 0 if none has
abbrev pub ClassFrom : ℕ → List Regex → Word → ℕ → Type 0
ClassFrom i [] input class = class ≡ 0
ClassFrom i (r ∷ rs) input class = (EndsHere r input × (class ≡ i))
    ⊎ ((EndsHere r input → ⊥) × ClassFrom (suc i) rs input class)

abbrev pub Class : List Regex → Word → ℕ → Type 0
Class rs input class = ClassFrom 1 rs input class

-- w can be read from the beginning of one of the patterns, whose positions start at k, and p is
-- read last
abbrev pub ReadsAny : ℕ → List Regex → ℕ → Language
ReadsAny k [] p w = ⊥
ReadsAny k (r ∷ rs) p w = Reads k r p w ⊎ ReadsAny (k + size r) rs p w

-- a match begun anywhere in the input, complete or not, may have read p last
abbrev pub LastRead : List Regex → Word → ℕ → Type 0
LastRead rs input p = Joined Any (ReadsAny 0 rs p) input

-- ---- how it is computed

-- a set of positions: a flag for each
abbrev pub Flags : Type 0
Flags = List Bool

abbrev pub has : Flags → ℕ → Bool
has set p = slice_index_or set p false

-- the flags of the positions below n that pass the test
abbrev pub flags : ℕ → (ℕ → Bool) → Flags
flags zero test = []
flags (suc n) test = flags n test ++ (test n ∷ [])

-- how many positions the patterns have
abbrev pub total : List Regex → ℕ
total [] = 0
total (r ∷ rs) = size r + total rs

-- the positions of the patterns that b reads next; a match may begin anywhere
abbrev pub step_any : ℕ → List Regex → (ℕ → Bool) → ℕ → ℕ → Bool
step_any k [] set b p = false
step_any k (r ∷ rs) set b p = step k r true set b p || step_any (k + size r) rs set b p

-- the empty set, and the set after one byte more
unfoldable pub none : List Regex → Flags
none rs = flags (total rs) (λ p. false)

unfoldable pub next : List Regex → Flags → ℕ → Flags
next rs set b = flags (total rs) (λ p. step_any 0 rs (has set) b p)

-- the set after the bytes of w, one after another
abbrev pub next_all : List Regex → Flags → Word → Flags
next_all rs set [] = set
next_all rs set (b ∷ w) = next_all rs (next rs set b) w

-- the set of last-read positions after an input
abbrev pub last_read : List Regex → Word → Flags
last_read rs input = next_all rs (none rs) input

-- the lowest pattern, counted from i, that has the empty word or a last position in the set, 0 if
-- none has
abbrev pub class_from : ℕ → ℕ → List Regex → (ℕ → Bool) → ℕ
class_from i k [] set = 0
class_from i k (r ∷ rs) set =
    cond (nullable r || ends k r set) i (class_from (suc i) (k + size r) rs set)

-- the class of a set
unfoldable pub class_of : List Regex → Flags → ℕ
class_of rs set = class_from 1 0 rs (has set)
