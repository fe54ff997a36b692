-- What a scanner holds, what its calls answer and leave, and which books it keeps. Assumes nothing.
use Rattle.std.specs.Prelude.{◌≡◌, ℕ, ◌<◌, ◌≤◌, List, map, length, take, Some, None, Ok, Err, Option, Result}
use Rattle.ternary.specs.declared.entry.Entry.{Entry}
use Rattle.ternary.specs.declared.refusal.Refusal.{Refusal}
use Rattle.ternary.specs.declared.refusal.Refusal.TheVariants.{BadAutomaton, WorkTooShort, OutputTooShort, TooManyEntries, CardFull, CardTooSmall, NoEntry, NotLoaded, PieceTooLong, Malformed, Mismatch, WrongEntry, WrongPair, OutsideBuffer, BadCoach, BytesWaiting, BadTurn, WrongPattern, PatternsTooLarge, TooManySets, CodesDiffer}
use Rattle.ternary.specs.declared.words.Mark.{Mark}
use Rattle.ternary.specs.declared.words.Progress.{Progress}
use Rattle.ternary.specs.declared.words.StateCode.{StateCode}
use Rattle.ternary.specs.Marks.{marked}
use Rattle.ternary.specs.Refusals.{number, values}
use Rattle.automaton.specs.Limits.{Handed}
use Rattle.automaton.specs.Runs.{Dfa, reach}
use Rattle.image.specs.Format.{decode}
use Rattle.table.specs.Acceptance.{code_of, Acceptable, Carries}
use Rattle.scanner.specs.Walks.{Outcome}
use Rattle.scanner.specs.declared.scanner.Position.{Position}
use Rattle.scanner.specs.declared.scanner.Scanner.{Scanner}
use Rattle.scanner.specs.Book.{Told, declined, accepted, fed, Book, blank, filled, LoadRefuses}

-- what is to be seen of a scanner: the list of its card, the capacity of its card, and where it stands
pub record Seen : Type 0 where
  pub listed : List Entry
  pub capacity : ℕ
  pub position : Option Position

-- a scanner over a card of a make that is known by its list and its capacity
abbrev pub seen : {C : Type 0} → (C → List Entry) → (C → ℕ) → Scanner C → Seen
seen entries size s = record { listed = entries s.card; capacity = size s.card; position = s.position }

-- a card of this list and this capacity, and who stands there
abbrev pub standing : List Entry → ℕ → Option Position → Seen
standing listed capacity position = record { listed = listed; capacity = capacity; position = position }

-- at the code of the start state
abbrev pub at_start : StateCode → Option Position
at_start start = Some (record { start = start; code = start })

-- a load that is accepted: the card holds the image's entries in order, and the scanner stands at the start state's code
pub record Entered (a : Handed) (image : List ℕ) (before after : Seen) : Type 0 where
  pub acceptable : Acceptable a image
  pub room : length (decode image).entries ≤ before.capacity
  pub listed : after.listed ≡ (decode image).entries
  pub capacity : after.capacity ≡ before.capacity
  pub position : after.position ≡ at_start (code_of (decode image) a.start)

-- what a load answers
abbrev pub LoadAnswer : Handed → List ℕ → Seen → Seen → Result (Unit {0}) Refusal → Type 0
LoadAnswer a image before after (Ok u) = Entered a image before after
LoadAnswer a image before after (Err why) = LoadRefuses before.capacity a image (number why) (values why)

-- the code that a refusal leaves a walk at: where it met no entry, the code reached
abbrev pub left_at : StateCode → Refusal → StateCode
left_at code BadAutomaton = code
left_at code WorkTooShort = code
left_at code OutputTooShort = code
left_at code TooManyEntries = code
left_at code CardFull = code
left_at code CardTooSmall = code
left_at code (NoEntry p) = p.code
left_at code NotLoaded = code
left_at code PieceTooLong = code
left_at code (Malformed at) = code
left_at code Mismatch = code
left_at code (WrongEntry s b) = code
left_at code (WrongPair s b c) = code
left_at code OutsideBuffer = code
left_at code BadCoach = code
left_at code BytesWaiting = code
left_at code BadTurn = code
left_at code (WrongPattern pattern place) = code
left_at code PatternsTooLarge = code
left_at code TooManySets = code
left_at code CodesDiffer = code

-- the code that a walk from a code leaves a scanner at
abbrev pub reached : StateCode → Result Progress Refusal → StateCode
reached code (Ok p) = p.code
reached code (Err why) = left_at code why

-- a feed is a walk on the own card from the own code, which it replaces; before a load it declines by 8 and leaves the buffer
abbrev pub FeedAnswer : List Entry → Option Position → Option Position → List ℕ → List Mark → List Mark → Result Progress Refusal → Type 0
FeedAnswer listed None next piece buffer after r = (r ≡ Err NotLoaded) × (next ≡ None) × (after ≡ buffer)
FeedAnswer listed (Some at) next piece buffer after r = Outcome listed at.code piece buffer after r × (next ≡ Some (record { start = at.start; code = reached at.code r }))

-- a restart goes back to the start state's code; before a load it declines by 8
abbrev pub RestartAnswer : Option Position → Option Position → Result (Unit {0}) Refusal → Type 0
RestartAnswer None next r = (r ≡ Err NotLoaded) × (next ≡ None)
RestartAnswer (Some at) next r = (r ≡ Ok tt) × (next ≡ at_start at.start)

-- the start and every successor is a state
pub record Closed (a : Dfa) : Type 0 where
  pub start_is : a.start < a.states
  pub next_is : (s : ℕ) → s < a.states → (b : ℕ) → b < 256 → a.next s b < a.states

-- the card carries the automaton, and the scanner stands at the code of the state that the bytes lead to
pub record Stands (s : Seen) (a : Dfa) (code : ℕ → StateCode) (bytes : List ℕ) : Type 0 where
  pub closed : Closed a
  pub carries : Carries a code s.listed
  pub state : reach a a.start bytes < a.states
  pub position : s.position ≡ Some (record { start = code a.start; code = code (reach a a.start bytes) })

-- a scanner keeps a book: blank before a load, and else the one by which it stands
abbrev pub Keeps : Seen → Book → Type 0
Keeps s blank = s.position ≡ None
Keeps s (filled a code bytes) = Stands s a code bytes

-- what a load or a restart tells
abbrev pub done_told : Result (Unit {0}) Refusal → Told
done_told (Ok u) = accepted
done_told (Err why) = declined (number why) (values why)

-- what a feed tells, with the marks that it left in the buffer
abbrev pub fed_told : Result Progress Refusal → List Mark → Told
fed_told (Ok p) after = fed p.taken p.marks (map marked (take p.marks after)) p.code.0 p.marks_full p.searches
fed_told (Err why) after = declined (number why) (values why)

-- a call by the book: what it tells is the book's answer, and the scanner keeps the book's next page
pub record ByTheBook (turn : Book → Told → Book → Type 0) (book : Book) (told : Told) (after : Seen) : Type 0 where
  pub page : Book
  pub answer : turn book told page
  pub keeps : Keeps after page

-- so for every book that the scanner keeps before the call
abbrev pub KeepsOn : (Book → Told → Book → Type 0) → Seen → Told → Seen → Type 0
KeepsOn turn before told after = (book : Book) → Keeps before book → ByTheBook turn book told after
