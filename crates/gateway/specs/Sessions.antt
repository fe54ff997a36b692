-- The records of coaches, who of them comes next, and what a walk leaves of one. Assumes nothing.
use Rattle.std.specs.Prelude.{◌≡◌, ℕ, ◌+◌, ◌-◌, ◌%◌, ◌<◌, min, Bool, true, false, ◌&&◌, List, length, take, drop, Some, None, Ok, Err, Option, Result, nat_lt, slice_index_or}
use Rattle.std.specs.Option.{option_map_or}
use Rattle.ternary.specs.declared.refusal.Refusal.{Refusal}
use Rattle.ternary.specs.declared.refusal.Refusal.TheVariants.{BadAutomaton, WorkTooShort, OutputTooShort, TooManyEntries, CardFull, CardTooSmall, NoEntry, NotLoaded, PieceTooLong, Malformed, Mismatch, WrongEntry, WrongPair, OutsideBuffer, BadCoach, BytesWaiting, BadTurn, WrongPattern, PatternsTooLarge, TooManySets, CodesDiffer}
use Rattle.ternary.specs.declared.words.Progress.{Progress}
use Rattle.ternary.specs.declared.words.StateCode.{StateCode}
use Rattle.scanner.specs.Scanners.{reached}
use Rattle.gateway.specs.declared.session.Session.{Session}

-- ---- one record

-- of a coach that is not open
abbrev pub closed : Session
closed = record { is_open = false; code = record { 0 = 0 }; place = 0; waiting = 0 }

-- of a coach that starts at a code
abbrev pub opened : StateCode → Session
opened code = record { is_open = true; code = code; place = 0; waiting = 0 }

-- of the same coach, with another part waiting
abbrev pub posted : Session → ℕ → ℕ → Session
posted s place waiting = record {
  is_open = s.is_open;
  code = s.code;
  place = place;
  waiting = waiting;
}

-- whether bytes of a coach wait
abbrev pub waits : Session → Bool
waits s = s.is_open && nat_lt 0 s.waiting

-- where the part that waits ends in the receive buffer
abbrev pub part_end : Session → ℕ
part_end s = s.place + s.waiting

-- the bytes that a turn walks over: as many as the lesser of a quota and of what waits, from the
-- front of what waits, as the receive buffer holds them then
abbrev pub piece : Session → List ℕ → ℕ → List ℕ
piece s buffer quota = take (min quota s.waiting) (drop s.place buffer)

-- ---- what a walk leaves of a record

-- the walk's answer that a refusal carries
abbrev pub carried : Refusal → Option Progress
carried BadAutomaton = None
carried WorkTooShort = None
carried OutputTooShort = None
carried TooManyEntries = None
carried CardFull = None
carried CardTooSmall = None
carried (NoEntry p) = Some p
carried NotLoaded = None
carried PieceTooLong = None
carried (Malformed at) = None
carried Mismatch = None
carried (WrongEntry s b) = None
carried (WrongPair s b c) = None
carried OutsideBuffer = None
carried BadCoach = None
carried BytesWaiting = None
carried BadTurn = None
carried (WrongPattern pattern place) = None
carried PatternsTooLarge = None
carried TooManySets = None
carried CodesDiffer = None

-- the bytes that a walk took
abbrev pub taken : Result Progress Refusal → ℕ
taken (Ok p) = p.taken
taken (Err why) = option_map_or (λ (p : Progress). p.taken) (carried why) 0

-- the marks that a walk wrote
abbrev pub marks_written : Result Progress Refusal → ℕ
marks_written (Ok p) = p.marks
marks_written (Err why) = option_map_or (λ (p : Progress). p.marks) (carried why) 0

-- the record stands at the code reached, and the bytes taken no longer wait
abbrev pub walked : Session → Result Progress Refusal → Session
walked s r = record {
  is_open = s.is_open;
  code = reached s.code r;
  place = s.place + taken r;
  waiting = s.waiting - taken r;
}

-- ---- the table of records

-- the record of a coach, and that of one that is not open where no coach has the number
abbrev pub session_of : List Session → ℕ → Session
session_of sessions coach = slice_index_or sessions coach closed

-- a coach has this number, and is open
pub record IsOpen (sessions : List Session) (coach : ℕ) : Type 0 where
  pub below : coach < 64
  pub flag : (session_of sessions coach).is_open ≡ true

-- a coach has this number, and is not open
pub record IsShut (sessions : List Session) (coach : ℕ) : Type 0 where
  pub below : coach < 64
  pub flag : (session_of sessions coach).is_open ≡ false

-- every coach's record is that of one that is not open
pub record AllClosed (sessions : List Session) : Type 0 where
  pub count : length sessions ≡ 64
  pub each : (coach : ℕ) → session_of sessions coach ≡ closed

-- the coach so many steps on in cyclic order, in which 0 comes after 63
abbrev pub steps_on : ℕ → ℕ → ℕ
steps_on from steps = (from + steps) % 64

-- the coach comes next in cyclic order from `from`: its bytes wait, and on the way to it no
-- coach's do
pub record Comes (sessions : List Session) (from coach : ℕ) : Type 0 where
  pub steps : ℕ
  pub few : steps < 64
  pub at : coach ≡ steps_on from steps
  pub waiting : waits (session_of sessions coach) ≡ true
  pub none_before : (k : ℕ) → k < steps → waits (session_of sessions (steps_on from k)) ≡ false

-- no coach's bytes wait
abbrev pub NoneWaits : List Session → Type 0
NoneWaits sessions = (coach : ℕ) → coach < 64 → waits (session_of sessions coach) ≡ false

-- who comes next in cyclic order from `from`, if bytes of a coach wait
abbrev pub IsNext : List Session → ℕ → Option ℕ → Type 0
IsNext sessions from None = NoneWaits sessions
IsNext sessions from (Some coach) = Comes sessions from coach
