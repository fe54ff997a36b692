-- What a scanner over two lent cards sees, what its calls answer and leave, and which books it keeps. Assumes nothing.
use Rattle.std.specs.Prelude.{◌≡◌, ℕ, ◌<◌, List, map, length, take, Some, None, Ok, Err, IfOk, Option, Result}
use Rattle.ternary.specs.declared.entry.Entry.{Entry}
use Rattle.ternary.specs.declared.refusal.Refusal.{Refusal}
use Rattle.ternary.specs.declared.refusal.Refusal.TheVariants.{NotLoaded}
use Rattle.ternary.specs.declared.words.Mark.{Mark}
use Rattle.ternary.specs.declared.words.Progress.{Progress}
use Rattle.ternary.specs.declared.words.StateCode.{StateCode}
use Rattle.ternary.specs.Marks.{marked}
use Rattle.ternary.specs.Refusals.{number, values}
use Rattle.automaton.specs.Limits.{Handed}
use Rattle.automaton.specs.Runs.{Dfa, reach}
use Rattle.image.specs.Format.{decode}
use Rattle.table.specs.Acceptance.{code_of, Carries}
use Rattle.pairs.specs.declared.pair.PairEntry.{PairEntry}
use Rattle.pairs.specs.declared.list.PairCard.{PairCard}
use Rattle.pairs.specs.Cards.{listed, places}
use Rattle.pairs.specs.Carries as pairs
use Rattle.pair_image.specs.Format as pair
use Rattle.pair_walk.specs.Walks as walks
use Rattle.scanner.specs.Book.{Book, blank, filled}
use Rattle.scanner.specs.Scanners.{Closed, left_at}
use Rattle.pair_scanner.specs.declared.lent.Position.{Position}
use Rattle.pair_scanner.specs.declared.lent.PairScanner.{PairScanner}
use Rattle.pair_scanner.specs.Book.{Told, declined, accepted, fed, LoadRefuses, Loadable}

-- what is to be seen of a scanner and the cards that it is lent: the list and the capacity of each, and where it stands
pub record Seen : Type 0 where
  pub pair_list : List PairEntry
  pub list : List Entry
  pub pair_capacity : ℕ
  pub capacity : ℕ
  pub position : Option Position

-- with a one-byte card of a make that is known by its list and its capacity
abbrev pub seen : {C : Type 0} → (C → List Entry) → (C → ℕ) → PairCard → C → PairScanner → Seen
seen entries size two one s = record { pair_list = listed two; list = entries one; pair_capacity = places two; capacity = size one; position = s.position }

-- what is to be seen of a scanner that stands elsewhere, its cards untouched
abbrev pub moved : Seen → Option Position → Seen
moved s next = record { pair_list = s.pair_list; list = s.list; pair_capacity = s.pair_capacity; capacity = s.capacity; position = next }

-- at the code of the start state
abbrev pub at_start : StateCode → Option Position
at_start start = Some (record { start = start; code = start })

-- a load that is accepted: each card holds the entries of its image in order, and the scanner stands at the start state's code
pub record Entered (a : Handed) (pair_image image : List ℕ) (before after : Seen) : Type 0 where
  pub loadable : Loadable before.pair_capacity before.capacity a pair_image image
  pub pair_list : after.pair_list ≡ (pair.decode pair_image).entries
  pub list : after.list ≡ (decode image).entries
  pub pair_capacity : after.pair_capacity ≡ before.pair_capacity
  pub capacity : after.capacity ≡ before.capacity
  pub position : after.position ≡ at_start (code_of (decode image) a.start)

-- what a load answers
abbrev pub LoadAnswer : Handed → List ℕ → List ℕ → Seen → Seen → Result (Unit {0}) Refusal → Type 0
LoadAnswer a pair_image image before after (Ok u) = Entered a pair_image image before after
LoadAnswer a pair_image image before after (Err why) = LoadRefuses before.pair_capacity before.capacity a pair_image image (number why) (values why)

-- the code that a walk from a code leaves a scanner at
abbrev pub reached : StateCode → Result Progress Refusal → StateCode
reached code (Ok p) = p.code
reached code (Err why) = left_at code why

-- a feed is a walk on the lent cards from the own code, which it replaces; before a load it declines by 8 and leaves the buffer
abbrev pub FeedAnswer : List PairEntry → List Entry → Option Position → Option Position → List ℕ → List Mark → List Mark → Result Progress Refusal → Type 0
FeedAnswer ds es None next piece buffer after r = (r ≡ Err NotLoaded) × (next ≡ None) × (after ≡ buffer)
FeedAnswer ds es (Some at) next piece buffer after r =
    (r ≡ walks.answer es ds at.code piece (length buffer)) × (after ≡ walks.leaves es ds at.code piece buffer) × (next ≡ Some (record { start = at.start; code = reached at.code r }))

-- a restart goes back to the start state's code; before a load it declines by 8
abbrev pub RestartAnswer : Option Position → Option Position → Result (Unit {0}) Refusal → Type 0
RestartAnswer None next r = (r ≡ Err NotLoaded) × (next ≡ None)
RestartAnswer (Some at) next r = (r ≡ Ok tt) × (next ≡ at_start at.start)

-- both cards carry the automaton by the same codes, and the scanner stands at the code of the state that the bytes lead to
pub record Stands (s : Seen) (a : Dfa) (code : ℕ → StateCode) (bytes : List ℕ) : Type 0 where
  pub closed : Closed a
  pub single : Carries a code s.list
  pub double : pairs.Carries a code s.pair_list
  pub state : reach a a.start bytes < a.states
  pub position : s.position ≡ Some (record { start = code a.start; code = code (reach a a.start bytes) })

-- a scanner keeps a book: blank before a load, and else the one by which it stands
abbrev pub Keeps : Seen → Book → Type 0
Keeps s blank = s.position ≡ None
Keeps s (filled a code bytes) = Stands s a code bytes

-- what a load or a restart tells
abbrev pub done_told : Result (Unit {0}) Refusal → Told
done_told (Ok u) = accepted
done_told (Err why) = declined (number why) (values why)

-- what a feed tells, with the marks that it left in the buffer
abbrev pub fed_told : Result Progress Refusal → List Mark → Told
fed_told (Ok p) after = fed p.taken p.marks (map marked (take p.marks after)) p.code.0 p.marks_full
fed_told (Err why) after = declined (number why) (values why)

-- a call by the book: what it tells is the book's answer, and the scanner keeps the book's next page
pub record ByTheBook (turn : Book → Told → Book → Type 0) (book : Book) (told : Told) (after : Seen) : Type 0 where
  pub page : Book
  pub answer : turn book told page
  pub keeps : Keeps after page

-- so for every book that the scanner keeps before the call
abbrev pub KeepsOn : (Book → Told → Book → Type 0) → Seen → Told → Seen → Type 0
KeepsOn turn before told after = (book : Book) → Keeps before book → ByTheBook turn book told after

-- the searches of a feed by any book: at least half the bytes taken, and no more than the bytes of the piece where marks do not stop it
abbrev pub SearchesFew : Seen → List ℕ → Result Progress Refusal → Type 0
SearchesFew before piece r = (book : Book) → Keeps before book → IfOk r (walks.Searched (length piece))
