-- The numbers and values by which refusals are known outside. Assumes nothing.
use Rattle.std.specs.Prelude.{◌≡◌, ℕ, cond, List, [], ◌∷◌, ◌++◌, codes, decimal, Some, None, Ok, Err, Option, Result}
use Rattle.ternary.specs.declared.words.Progress.{Progress}
use Rattle.ternary.specs.declared.refusal.Refusal.{Refusal}
use Rattle.ternary.specs.declared.refusal.Refusal.TheVariants.{BadAutomaton, WorkTooShort, OutputTooShort, TooManyEntries, CardFull, CardTooSmall, NoEntry, NotLoaded, PieceTooLong, Malformed, Mismatch, WrongEntry, WrongPair, OutsideBuffer, BadCoach, BytesWaiting, BadTurn, WrongPattern, PatternsTooLarge, TooManySets, CodesDiffer}

-- the number of a refusal
abbrev pub number : Refusal → ℕ
number BadAutomaton = 1
number WorkTooShort = 2
number OutputTooShort = 3
number TooManyEntries = 4
number CardFull = 5
number CardTooSmall = 6
number (NoEntry p) = 7
number NotLoaded = 8
number PieceTooLong = 9
number (Malformed at) = 10
number Mismatch = 11
number (WrongEntry s b) = 12
number (WrongPair s b c) = 12
number OutsideBuffer = 14
number BadCoach = 16
number BytesWaiting = 17
number BadTurn = 18
number (WrongPattern pattern place) = 19
number PatternsTooLarge = 20
number TooManySets = 21
number CodesDiffer = 22

-- the values of a walk's answer: taken, marks, code, 1 where marks stopped it and else 0, searches
abbrev pub progress_values : Progress → List ℕ
progress_values p = p.taken ∷ p.marks ∷ p.code.0 ∷ cond p.marks_full 1 0 ∷ p.searches ∷ []

-- the values that a refusal carries: the answer of a walk, an offset, or a state and one byte or two
abbrev pub values : Refusal → List ℕ
values BadAutomaton = []
values WorkTooShort = []
values OutputTooShort = []
values TooManyEntries = []
values CardFull = []
values CardTooSmall = []
values (NoEntry p) = progress_values p
values NotLoaded = []
values PieceTooLong = []
values (Malformed at) = at ∷ []
values Mismatch = []
values (WrongEntry s b) = s.0 ∷ b ∷ []
values (WrongPair s b c) = s.0 ∷ b ∷ c ∷ []
values OutsideBuffer = []
values BadCoach = []
values BytesWaiting = []
values BadTurn = []
values (WrongPattern pattern place) = pattern ∷ place ∷ []
values PatternsTooLarge = []
values TooManySets = []
values CodesDiffer = []

-- the offset at which a file or an image is malformed
abbrev pub offset : Refusal → Option ℕ
offset BadAutomaton = None
offset WorkTooShort = None
offset OutputTooShort = None
offset TooManyEntries = None
offset CardFull = None
offset CardTooSmall = None
offset (NoEntry p) = None
offset NotLoaded = None
offset PieceTooLong = None
offset (Malformed at) = Some at
offset Mismatch = None
offset (WrongEntry s b) = None
offset (WrongPair s b c) = None
offset OutsideBuffer = None
offset BadCoach = None
offset BytesWaiting = None
offset BadTurn = None
offset (WrongPattern pattern place) = None
offset PatternsTooLarge = None
offset TooManySets = None
offset CodesDiffer = None

-- a refusal is known by a number and by the values that it carries
abbrev pub KnownBy : Refusal → ℕ → List ℕ → Type 0
KnownBy why n vs = (number why ≡ n) × (values why ≡ vs)

-- a fault refuses with its offset, and without one the answer stands
abbrev pub refuse_or : {X : Type 0} → Option ℕ → Result X Refusal → Result X Refusal
refuse_or None answer = answer
refuse_or (Some at) answer = Err (Malformed at)

-- the answer of a check: refused with the offset of its fault, or passed
abbrev pub verdict : Option ℕ → Result (Unit {0}) Refusal
verdict fault = refuse_or fault (Ok tt)

-- a number, and an offset if there is one, as a refusal is printed
abbrev pub number_text : ℕ → Option ℕ → List ℕ
number_text n None = codes "refused " ++ decimal n
number_text n (Some at) = codes "refused " ++ (decimal n ++ (codes " at " ++ decimal at))

-- a refusal as it is printed
abbrev pub refusal_text : Refusal → List ℕ
refusal_text e = number_text (number e) (offset e)
