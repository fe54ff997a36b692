-- What a gateway holds, and what its calls answer and leave. Assumes nothing.
use Rattle.std.specs.Prelude.{◌≡◌, ℕ, ◌+◌, ◌<◌, ◌≤◌, ◌%◌, true, false, List, [], length, Some, None, Ok, Err, Option, Result, is_some, slice_set}
use Rattle.std.specs.List.{AllByRecursion}
use Rattle.ternary.specs.declared.entry.Entry.{Entry}
use Rattle.ternary.specs.declared.refusal.Refusal.{Refusal}
use Rattle.ternary.specs.declared.words.Mark.{Mark}
use Rattle.ternary.specs.declared.words.Progress.{Progress}
use Rattle.ternary.specs.declared.words.StateCode.{StateCode}
use Rattle.ternary.specs.Refusals.{number, values}
use Rattle.automaton.specs.Limits.{Handed}
use Rattle.image.specs.Format.{decode}
use Rattle.table.specs.Acceptance.{code_of, Acceptable}
use Rattle.scanner.specs.Book.{Told, LoadRefuses}
use Rattle.scanner.specs.Scanners.{fed_told}
use Rattle.scanner.specs.Walks.{Outcome}
use Rattle.gateway.specs.declared.session.Session.{Session}
use Rattle.gateway.specs.declared.words.Served.{Served}
use Rattle.gateway.specs.declared.gateway.Gateway.{Gateway}
use Rattle.gateway.specs.Sessions.{closed, opened, posted, session_of, IsOpen, IsShut, AllClosed, waits, part_end, Comes, NoneWaits, piece, walked}

-- ---- what is to be seen of a gateway

-- the list of its card, the capacity of its card, the start state's code once it is loaded, the
-- record of each coach, and the coach with whom the next turn begins to search
pub record Seen : Type 0 where
  pub listed : List Entry
  pub capacity : ℕ
  pub start : Option StateCode
  pub sessions : List Session
  pub next : ℕ

-- a gateway over a card of a make that is known by its list and its capacity
abbrev pub seen : {C : Type 0} → (C → List Entry) → (C → ℕ) → Gateway C → Seen
seen entries size g = record {
  listed = entries g.card;
  capacity = size g.card;
  start = g.start;
  sessions = g.sessions;
  next = g.next;
}

-- a gateway that is not loaded, with no coach open
pub record IsBlank (s : Seen) : Type 0 where
  pub start : s.start ≡ None
  pub sessions : AllClosed s.sessions
  pub next : s.next ≡ 0

-- before an accepted load, and after one
abbrev pub IsUnloaded : Seen → Type 0
IsUnloaded s = is_some s.start ≡ false

abbrev pub IsLoaded : Seen → Type 0
IsLoaded s = is_some s.start ≡ true

-- the record of a coach
abbrev pub record_of : Seen → ℕ → Session
record_of s coach = session_of s.sessions coach

-- one coach's record is this one, and all else stays
abbrev pub with_session : Seen → ℕ → Session → Seen
with_session s coach x = record {
  listed = s.listed;
  capacity = s.capacity;
  start = s.start;
  sessions = slice_set s.sessions coach x;
  next = s.next;
}

-- ---- what is asked, and what is replied

-- a call with all that is passed to it: an automaton and an image to load; a coach to open; a
-- coach with the place and the length of its part; a turn's receive buffer, mark slots and quota;
-- a coach to close
pub data Asked : Type 0 where
  loading : Handed → List ℕ → Asked
  opening : ℕ → Asked
  posting : ℕ → ℕ → ℕ → Asked
  turning : List ℕ → ℕ → ℕ → Asked
  closing : ℕ → Asked

-- what a call is told: refused, by the number and the values of a refusal; accepted; that no bytes
-- wait; or that a coach was served, and what its walk told
pub data Reply : Type 0 where
  refused : ℕ → List ℕ → Reply
  accepted : Reply
  idle : Reply
  served : ℕ → Told → Reply

-- what a load, an open, a post or a close replies
abbrev pub done_reply : Result (Unit {0}) Refusal → Reply
done_reply (Ok u) = accepted
done_reply (Err why) = refused (number why) (values why)

-- what a turn that is not refused replies, with the marks that it left
abbrev pub served_reply : Option Served → List Mark → Reply
served_reply None after = idle
served_reply (Some s) after = served s.coach (fed_told s.walk after)

-- what a turn replies, with the marks that it left
abbrev pub turn_reply : Result (Option Served) Refusal → List Mark → Reply
turn_reply (Ok s) after = served_reply s after
turn_reply (Err why) after = refused (number why) (values why)

-- ---- the calls, one by one: which case applies, what is replied, what is left

-- a load is refused as a check is, and then if the card is too small; else the image's entries are
-- the card's, no coach is open, and the next search begins with coach 0
pub data Loads (a : Handed) (image : List ℕ) (s : Seen) : Reply → Seen → Type 0 where
  declines : {n : ℕ} {vs : List ℕ} → LoadRefuses s.capacity a image n vs
      → Loads a image s (refused n vs) s
  loads : {sessions : List Session} → Acceptable a image
      → length (decode image).entries ≤ s.capacity
      → AllClosed sessions
      → Loads a image s accepted (record {
        listed = (decode image).entries;
        capacity = s.capacity;
        start = Some (code_of (decode image) a.start);
        sessions = sessions;
        next = 0;
      })

-- a coach that is not open is opened at the start code, with no bytes waiting
pub data Opens (coach : ℕ) (s : Seen) : Reply → Seen → Type 0 where
  unloaded : IsUnloaded s → Opens coach s (refused 8 []) s
  misnamed : IsLoaded s → (IsShut s.sessions coach → ⊥) → Opens coach s (refused 16 []) s
  opens : {start : StateCode} → s.start ≡ Some start → IsShut s.sessions coach
      → Opens coach s accepted (with_session s coach (opened start))

-- a part of the receive buffer waits for a coach that is open and has none waiting
pub data Posts (coach place waiting : ℕ) (s : Seen) : Reply → Seen → Type 0 where
  unloaded : IsUnloaded s → Posts coach place waiting s (refused 8 []) s
  misnamed : IsLoaded s → (IsOpen s.sessions coach → ⊥)
      → Posts coach place waiting s (refused 16 []) s
  occupied : IsLoaded s → IsOpen s.sessions coach → waits (record_of s coach) ≡ true
      → Posts coach place waiting s (refused 17 []) s
  posts : IsLoaded s → IsOpen s.sessions coach → waits (record_of s coach) ≡ false
      → Posts coach place waiting s accepted
      (with_session s coach (posted (record_of s coach) place waiting))

-- a coach that is open is closed, and what waits is dropped
pub data Closes (coach : ℕ) (s : Seen) : Reply → Seen → Type 0 where
  unloaded : IsUnloaded s → Closes coach s (refused 8 []) s
  misnamed : IsLoaded s → (IsOpen s.sessions coach → ⊥) → Closes coach s (refused 16 []) s
  closes : IsLoaded s → IsOpen s.sessions coach
      → Closes coach s accepted (with_session s coach closed)

-- a quota that a turn takes: 1 to 4,096, with a mark slot for each byte
pub record GoodQuota (quota slots : ℕ) : Type 0 where
  pub some : 1 ≤ quota
  pub few : quota ≤ 4096
  pub room : quota ≤ slots

-- a walk for a coach, from the code of its record, over the front of its part as the buffer is now
abbrev pub WalksFor : Seen → ℕ → List ℕ → ℕ → List Mark → List Mark
    → Result Progress Refusal → Type 0
WalksFor s coach buffer quota before after r =
    let x = record_of s coach in
    Outcome s.listed x.code (piece x buffer quota) before after r

-- after a walk for a coach: its record is as the walk leaves it, and the next search begins with
-- the coach after it
abbrev pub after_serving : Seen → ℕ → Result Progress Refusal → Seen
after_serving s coach r = record {
  listed = s.listed;
  capacity = s.capacity;
  start = s.start;
  sessions = slice_set s.sessions coach (walked (record_of s coach) r);
  next = (coach + 1) % 64;
}

-- a turn walks for the coach that comes next; what is replied, and what is left in the mark slots
-- and in the gateway
pub data Turns (buffer : List ℕ) (before : List Mark) (quota : ℕ) (s : Seen)
    : Reply → List Mark → Seen → Type 0 where
  unloaded : IsUnloaded s → Turns buffer before quota s (refused 8 []) before s
  unfit : IsLoaded s → (GoodQuota quota (length before) → ⊥)
      → Turns buffer before quota s (refused 18 []) before s
  outside : {coach : ℕ} → IsLoaded s → GoodQuota quota (length before)
      → Comes s.sessions s.next coach
      → length buffer < part_end (record_of s coach)
      → Turns buffer before quota s (refused 18 []) before s
  rests : IsLoaded s → GoodQuota quota (length before)
      → NoneWaits s.sessions
      → Turns buffer before quota s idle before s
  serves : {coach : ℕ} {after : List Mark} (r : Result Progress Refusal)
      → IsLoaded s → GoodQuota quota (length before)
      → Comes s.sessions s.next coach
      → part_end (record_of s coach) ≤ length buffer
      → AllByRecursion (λ b. b < 256) buffer
      → WalksFor s coach buffer quota before after r
      → Turns buffer before quota s
      (served coach (fed_told r after)) after (after_serving s coach r)

-- a turn with so many mark slots, whatever they held
pub record TurnsOver (buffer : List ℕ) (slots quota : ℕ) (s : Seen) (reply : Reply) (next : Seen)
    : Type 0 where
  pub before : List Mark
  pub after : List Mark
  pub count : length before ≡ slots
  pub turns : Turns buffer before quota s reply after next

-- one call of a gateway: what it holds before, what is asked and replied, what it holds after
abbrev pub Step : Seen → Asked → Reply → Seen → Type 0
Step s (loading a image) reply next = Loads a image s reply next
Step s (opening coach) reply next = Opens coach s reply next
Step s (posting coach place waiting) reply next = Posts coach place waiting s reply next
Step s (turning buffer slots quota) reply next = TurnsOver buffer slots quota s reply next
Step s (closing coach) reply next = Closes coach s reply next
