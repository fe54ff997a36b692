-- What a gateway owes its owner over any series of calls. Assumes nothing.
use Rattle.std.specs.Prelude.{◌≡◌, ℕ, ◌+◌, ◌-◌, ◌<◌, ◌≤◌, min, Bool, true, false, cond, ◌&&◌, ◌==◌, List, [], ◌∷◌, ◌++◌, map, length, take, drop, Some, None, Option, count_by}
use Rattle.std.specs.List.{list_any}
use Rattle.ternary.specs.Marks.{Marked}
use Rattle.automaton.specs.Limits.{dfa}
use Rattle.automaton.specs.Runs.{Dfa, marks, raised}
use Rattle.scanner.specs.Book.{Told, declined, fed}
use Rattle.gateway.specs.Gateways.{Seen, IsBlank, Asked, loading, opening, posting, turning, closing, Reply, refused, accepted, idle, served, Step}

-- ---- series of calls

-- a call and what it was told
abbrev pub Event : Type 0
Event = Asked × Reply

-- calls one after another, with what the gateway holds before the first and after the last
pub data Chain : Seen → List Event → Seen → Type 0 where
  ended : {s : Seen} → Chain s [] s
  then : {s next last : Seen} {asked : Asked} {reply : Reply} {events : List Event}
      → Step s asked reply next → Chain next events last
      → Chain s ((asked, reply) ∷ events) last

-- ---- what calls and answers show of one coach

-- the automaton of the latest accepted load; whether the coach is open, and since its open: the
-- part that waits, the bytes taken, and the marks, each place raised by the bytes taken before its
-- turn
pub record Journal : Type 0 where
  pub loaded : Option Dfa
  pub is_open : Bool
  pub place : ℕ
  pub waiting : ℕ
  pub taken : List ℕ
  pub placed : List Marked

-- nothing taken, nothing waiting, nothing marked
abbrev pub blank_journal : Option Dfa → Bool → Journal
blank_journal loaded is_open = record {
  loaded = loaded;
  is_open = is_open;
  place = 0;
  waiting = 0;
  taken = [];
  placed = [];
}

-- another part waits
abbrev pub posted_journal : Journal → ℕ → ℕ → Journal
posted_journal j place waiting = record {
  loaded = j.loaded;
  is_open = j.is_open;
  place = place;
  waiting = waiting;
  taken = j.taken;
  placed = j.placed;
}

-- a walk over the front of the part that waits, as the buffer is at that turn
abbrev pub fed_journal : Journal → List ℕ → Told → Journal
fed_journal j buffer (declined n vs) = j
fed_journal j buffer Told.accepted = j
fed_journal j buffer (fed n count ms code stopped searches) = record {
  loaded = j.loaded;
  is_open = j.is_open;
  place = j.place + n;
  waiting = j.waiting - n;
  taken = j.taken ++ take n (drop j.place buffer);
  placed = j.placed ++ raised (length j.taken) ms;
}

-- what is so after a call that is accepted, and else what was
abbrev pub if_accepted : Reply → Journal → Journal → Journal
if_accepted (refused n vs) next j = j
if_accepted accepted next j = next
if_accepted idle next j = j
if_accepted (served coach w) next j = j

-- a turn, of which the coach is told where it is the one served
abbrev pub if_served : ℕ → List ℕ → Reply → Journal → Journal
if_served coach buffer (refused n vs) j = j
if_served coach buffer accepted j = j
if_served coach buffer idle j = j
if_served coach buffer (served other w) j = cond (other == coach) (fed_journal j buffer w) j

-- one call and its answer, entered in the journal of a coach
abbrev pub entered : ℕ → Journal → Asked → Reply → Journal
entered coach j (loading a image) reply =
    if_accepted reply (blank_journal (Some (dfa a)) false) j
entered coach j (opening other) reply =
    cond (other == coach) (if_accepted reply (blank_journal j.loaded true) j) j
entered coach j (posting other place waiting) reply =
    cond (other == coach) (if_accepted reply (posted_journal j place waiting) j) j
entered coach j (turning buffer slots quota) reply =
    if_served coach buffer reply j
entered coach j (closing other) reply =
    cond (other == coach) (if_accepted reply (blank_journal j.loaded false) j) j

-- a series of calls, entered one after another
abbrev pub entered_all : ℕ → Journal → List Event → Journal
entered_all coach j [] = j
entered_all coach j ((asked, reply) ∷ events) =
    entered_all coach (entered coach j asked reply) events

-- what the calls since a gateway was new show of a coach
abbrev pub journal : ℕ → List Event → Journal
journal coach = entered_all coach (blank_journal None false)

-- ---- the marks of each coach

-- the marks are those of the automaton's run from its start over the bytes, and before a load there
-- are none
abbrev pub AreMarksOf : Option Dfa → List ℕ → List Marked → Type 0
AreMarksOf None bytes ms = ms ≡ []
AreMarksOf (Some a) bytes ms = ms ≡ marks a a.start 0 bytes

-- after each call, each coach's marks since its open are the automaton's own over exactly its own
-- bytes taken since
abbrev pub MarksAreOwn : List Event → Type 0
MarksAreOwn events =
    (coach n : ℕ) → let j = journal coach (take n events) in AreMarksOf j.loaded j.taken j.placed

-- ---- what a turn takes

-- a walk that took so many bytes, and that neither a byte without an entry nor full marks ended
abbrev pub TookAll : ℕ → Told → Type 0
TookAll n (declined m vs) = ⊥
TookAll n Told.accepted = ⊥
TookAll n (fed m count ms code stopped searches) = (m ≡ n) × (stopped ≡ false)

-- a turn that serves takes the lesser of its quota and of what waits
abbrev pub TakesItsPart : (ℕ → Journal) → Asked → Reply → Type 0
TakesItsPart journals (loading a image) reply = Unit {0}
TakesItsPart journals (opening coach) reply = Unit {0}
TakesItsPart journals (posting coach place waiting) reply = Unit {0}
TakesItsPart journals (turning buffer slots quota) (refused n vs) = Unit {0}
TakesItsPart journals (turning buffer slots quota) accepted = Unit {0}
TakesItsPart journals (turning buffer slots quota) idle = Unit {0}
TakesItsPart journals (turning buffer slots quota) (served coach w) =
    TookAll (min quota (journals coach).waiting) w
TakesItsPart journals (closing coach) reply = Unit {0}

-- so the first of these calls
abbrev pub FirstTakesItsPart : (ℕ → Journal) → List Event → Type 0
FirstTakesItsPart journals [] = Unit {0}
FirstTakesItsPart journals ((asked, reply) ∷ events) = TakesItsPart journals asked reply

-- so each call
abbrev pub EachTakesItsPart : List Event → Type 0
EachTakesItsPart events =
    (n : ℕ) → FirstTakesItsPart (λ coach. journal coach (take n events)) (drop n events)

-- ---- fairness

-- whether a call was accepted
abbrev pub is_accepted : Reply → Bool
is_accepted (refused n vs) = false
is_accepted accepted = true
is_accepted idle = true
is_accepted (served coach w) = true

-- whether a turn served this coach
abbrev pub is_served : ℕ → Reply → Bool
is_served coach (refused n vs) = false
is_served coach accepted = false
is_served coach idle = false
is_served coach (served other w) = other == coach

-- whether this is an accepted turn: a turn that was not refused, whether it served a coach or found
-- none waiting
abbrev pub is_turn_of : Asked → Reply → Bool
is_turn_of (loading a image) reply = false
is_turn_of (opening coach) reply = false
is_turn_of (posting coach place waiting) reply = false
is_turn_of (turning buffer slots quota) reply = is_accepted reply
is_turn_of (closing coach) reply = false

abbrev pub is_turn : Event → Bool
is_turn e = is_turn_of e.0 e.1

-- whether a call ends a coach's wait: an accepted load, an accepted close of the coach, or a turn
-- that serves it
abbrev pub ends_wait_of : ℕ → Asked → Reply → Bool
ends_wait_of coach (loading a image) reply = is_accepted reply
ends_wait_of coach (opening other) reply = false
ends_wait_of coach (posting other place waiting) reply = false
ends_wait_of coach (turning buffer slots quota) reply = is_served coach reply
ends_wait_of coach (closing other) reply = other == coach && is_accepted reply

abbrev pub ends_wait : ℕ → Event → Bool
ends_wait coach e = ends_wait_of coach e.0 e.1

-- where bytes of a coach wait after n calls, any stretch of calls from there that has 64 accepted
-- turns has a call that ends its wait
abbrev pub IsFair : List Event → Type 0
IsFair events =
    (coach n m : ℕ) → let stretch = take m (drop n events) in
    0 < (journal coach (take n events)).waiting → 64 ≤ count_by is_turn stretch
    → list_any (ends_wait coach) stretch ≡ true

-- ---- all of it

-- what holds of every series of calls of a gateway that was new
pub record Lawful (events : List Event) : Type 0 where
  pub marks : MarksAreOwn events
  pub parts : EachTakesItsPart events
  pub fair : IsFair events

-- the same calls from the same beginning are told the same, and leave the same
abbrev pub IsSole : Seen → List Event → Seen → Type 0
IsSole first events last =
    (others : List Event) (other : Seen) → Chain first others other
    → map (λ (e : Event). e.0) others ≡ map (λ (e : Event). e.0) events
    → (others ≡ events) × (other ≡ last)

-- whoever else begins with a gateway that was new, over a card of the same capacity, whatever that
-- card held and of whatever make it is, is told the same by the same calls
abbrev pub IsToldAlike : Seen → List Event → Type 0
IsToldAlike first events =
    (other last : Seen) (others : List Event) → IsBlank other → other.capacity ≡ first.capacity
    → Chain other others last
    → map (λ (e : Event). e.0) others ≡ map (λ (e : Event). e.0) events
    → others ≡ events
