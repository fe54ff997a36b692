-- What the measured turns of a gateway answer. Assumes nothing.
use Rattle.std.specs.Prelude.{◌≡◌, ℕ, ◌+◌, ◌<◌, List, length, Some, None, Ok, Err, Option, Result}
use Rattle.ternary.specs.declared.entry.Entry.{Entry}
use Rattle.ternary.specs.declared.refusal.Refusal.{Refusal}
use Rattle.ternary.specs.declared.words.Mark.{Mark}
use Rattle.ternary.specs.declared.words.StateCode.{StateCode}
use Rattle.ternary.specs.Refusals.{number, values}
use Rattle.automaton.specs.Limits.{Handed}
use Rattle.image.specs.Format.{decode}
use Rattle.table.specs.Acceptance.{Acceptable, code_of}
use Rattle.scanner.specs.Book.{LoadRefuses}
use Rattle.gateway.specs.declared.words.Served.{Served}
use Rattle.gateway.specs.Sessions.{opened, posted, session_of}
use Rattle.gateway.specs.Gateways.{Seen, Turns, turn_reply}
use Rattle.measured.specs.Feeds.{added, fed_sum}

-- a sum with what a turn did that was not refused: nothing if no coach waited, and else the coach and its walk
abbrev pub served_sum : Option Served → List Mark → ℕ → ℕ
served_sum None marks sum = sum
served_sum (Some s) marks sum = fed_sum s.walk marks (added sum s.coach)

-- a sum with what a turn answers and the marks that it left, or with the number of a refusal
abbrev pub turned_sum : Result (Option Served) Refusal → List Mark → ℕ → ℕ
turned_sum (Ok served) marks sum = served_sum served marks sum
turned_sum (Err why) marks sum = added sum (number why)

-- a turn leads from one gateway, mark buffer and sum to the next
abbrev pub TurnTold : List ℕ → ℕ → Seen → Seen → List Mark → List Mark → ℕ → ℕ → Type 0
TurnTold buffer quota s s' marks marks' sum sum' =
    (r : Result (Option Served) Refusal)
    × Turns buffer marks quota s (turn_reply r marks') marks' s'
    × (sum' ≡ turned_sum r marks' sum)

-- so many turns over one buffer lead from a gateway and a mark buffer to others, and to a sum
pub data Turned (buffer : List ℕ) (quota : ℕ) (s : Seen) (marks : List Mark)
    : ℕ → Seen → List Mark → ℕ → Type 0 where
  none : Turned buffer quota s marks 0 s marks 0
  more : {n : ℕ} {s' s'' : Seen} {marks' marks'' : List Mark} {sum sum' : ℕ}
      → Turned buffer quota s marks n s' marks' sum
      → TurnTold buffer quota s' s'' marks' marks'' sum sum'
      → Turned buffer quota s marks (n + 1) s'' marks'' sum'

-- a gateway over these entries in which each coach is open at the start code and waits for all of
-- so many bytes, and the first turn is that of coach 0
pub record AllWait (entries : List Entry) (code : StateCode) (bytes : ℕ) (s : Seen) : Type 0 where
  pub listed : s.listed ≡ entries
  pub start : s.start ≡ Some code
  pub count : length s.sessions ≡ 64
  pub each : (coach : ℕ) → coach < 64
      → session_of s.sessions coach ≡ posted (opened code) 0 bytes
  pub next : s.next ≡ 0

-- what is answered: the number of a refused load into 4,096 places, or the sum of so many turns
-- with 4,096 mark slots, where at first all 64 coaches wait
pub data TurnsTold (a : Handed) (image buffer : List ℕ) (quota n : ℕ) : ℕ → Type 0 where
  refused : (why : Refusal) → LoadRefuses 4096 a image (number why) (values why)
      → TurnsTold a image buffer quota n (number why)
  turned : {s s' : Seen} {marks marks' : List Mark} {sum : ℕ} → Acceptable a image
      → AllWait (decode image).entries (code_of (decode image) a.start) (length buffer) s
      → length marks ≡ 4096
      → Turned buffer quota s marks n s' marks' sum
      → TurnsTold a image buffer quota n sum
