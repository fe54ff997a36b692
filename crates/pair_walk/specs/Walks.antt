-- What a walk over two cards answers and leaves in the mark buffer. Assumes nothing.
use Rattle.std.specs.Prelude.{◌≡◌, ℕ, ◌+◌, ◌*◌, ◌<◌, ◌≤◌, Bool, true, false, cond, ◌⊎◌, List, [], ◌++◌, map, length, drop, Ok, Err, Result, nat_lt}
use Rattle.ternary.specs.declared.entry.Entry.{Entry}
use Rattle.ternary.specs.declared.refusal.Refusal.{Refusal}
use Rattle.ternary.specs.declared.refusal.Refusal.TheVariants.{NoEntry, PieceTooLong}
use Rattle.ternary.specs.declared.words.Mark.{Mark}
use Rattle.ternary.specs.declared.words.Progress.{Progress}
use Rattle.ternary.specs.declared.words.StateCode.{StateCode}
use Rattle.ternary.specs.Marks.{Marked, held}
use Rattle.ternary.specs.Refusals.{progress_values, KnownBy}
use Rattle.pairs.specs.declared.pair.PairEntry.{PairEntry}
use Rattle.automaton.specs.Runs.{Dfa}
use Rattle.table.specs.Acceptance as table
use Rattle.pairs.specs.Carries as pairs
use Rattle.scanner.specs.Walks.{longest, searches_for, Walked}
use Rattle.scanner.specs.Scanners.{Closed}
use Rattle.pair_walk.specs.Ways.{Why, ended, full, lacking, Ending, walked}

-- whether marks stopped a walk
abbrev pub is_full : Why → Bool
is_full ended = false
is_full full = true
is_full lacking = false

-- how far a walk came
abbrev pub progress : Ending → Progress
progress e = record { taken = e.taken; marks = length e.ms; code = e.code; marks_full = is_full e.why; searches = e.searches }

-- a walk that ends since a search finds nothing is refused with how far it came
abbrev pub told : Why → Progress → Result Progress Refusal
told ended p = Ok p
told full p = Ok p
told lacking p = Err (NoEntry p)

-- a buffer with some marks in front, and beyond them what it had
abbrev pub with_marks : List Marked → List Mark → List Mark
with_marks ms buffer = map held ms ++ drop (length ms) buffer

-- the walk over a piece from a code, with so many slots for marks
abbrev pub over : List Entry → List PairEntry → StateCode → List ℕ → ℕ → Ending
over es ds from piece slots = walked es ds slots 0 from piece

-- what a walk answers: a piece of more than 65,536 bytes is refused
abbrev pub answer : List Entry → List PairEntry → StateCode → List ℕ → ℕ → Result Progress Refusal
answer es ds from piece slots =
    let e = over es ds from piece slots in
    cond (nat_lt longest (length piece)) (Err PieceTooLong) (told e.why (progress e))

-- the buffer after it
abbrev pub leaves : List Entry → List PairEntry → StateCode → List ℕ → List Mark → List Mark
leaves es ds from piece buffer = cond (nat_lt longest (length piece)) buffer (with_marks (over es ds from piece (length buffer)).ms buffer)

-- why a walk declines, by the number and the values of its refusal: by 9 if the piece is too long, and then the buffer is as it was; by 7, with how far it came, if a search finds nothing
abbrev pub Declines : Ending → List ℕ → List Mark → List Mark → Refusal → Type 0
Declines e piece buffer after why =
    (KnownBy why 9 [] × (longest < length piece) × (after ≡ buffer)) ⊎ (KnownBy why 7 (progress_values (progress e)) × (length piece ≤ longest) × (e.why ≡ lacking))

-- an answer as the walk of one byte a search counts its searches
abbrev pub one_byte : ℕ → Progress → Progress
one_byte bytes p = record { taken = p.taken; marks = p.marks; code = p.code; marks_full = p.marks_full; searches = searches_for p.taken bytes }

-- the searches: at least half the bytes taken, and at most one more than these, which is made only where marks stop the walk
pub record Searched (bytes : ℕ) (p : Progress) : Type 0 where
  pub half : p.taken ≤ 2 * p.searches
  pub few : p.searches ≤ p.taken + 1
  pub whole : p.marks_full ≡ false → (p.searches ≤ bytes) × (bytes ≤ 2 * p.searches)

-- a walk is the walk of one byte a search, but for the number of searches; it is refused only if the piece is too long
abbrev pub AsOneByte : List Entry → StateCode → List ℕ → List Mark → List Mark → Result Progress Refusal → Type 0
AsOneByte es from piece buffer later (Ok p) = Walked es from piece buffer later (one_byte (length piece) p) × Searched (length piece) p
AsOneByte es from piece buffer later (Err why) = (why ≡ PieceTooLong) × (longest < length piece) × (later ≡ buffer)

-- both lists carry an automaton by the same codes, and a code is that of one of its states
pub record Serves (es : List Entry) (ds : List PairEntry) (from : StateCode) : Type 0 where
  pub a : Dfa
  pub code : ℕ → StateCode
  pub closed : Closed a
  pub single : table.Carries a code es
  pub double : pairs.Carries a code ds
  pub state : ℕ
  pub is_state : state < a.states
  pub at : from ≡ code state
