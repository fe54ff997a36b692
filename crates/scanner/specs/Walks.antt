-- What a walk over a piece answers and leaves in the mark buffer. Assumes nothing.
use Rattle.std.specs.Prelude.{◌≡◌, ℕ, ◌+◌, ◌<◌, ◌≤◌, false, cond, ◌⊎◌, List, [], ◌++◌, map, length, take, drop, Some, None, Ok, Err, Result, nat_lt, slice_index}
use Rattle.ternary.specs.declared.entry.Entry.{Entry}
use Rattle.ternary.specs.declared.refusal.Refusal.{Refusal}
use Rattle.ternary.specs.declared.words.Mark.{Mark}
use Rattle.ternary.specs.declared.words.Progress.{Progress}
use Rattle.ternary.specs.declared.words.StateCode.{StateCode}
use Rattle.ternary.specs.Marks.{Marked, held}
use Rattle.ternary.specs.Match.{first}
use Rattle.ternary.specs.Refusals.{progress_values, KnownBy}
use Rattle.scanner.specs.Traces.{trace}

-- the most bytes that a piece may have
abbrev pub longest : ℕ
longest = 65536

-- n leading bytes of the piece can be taken: none is without an entry, they reach the code, and their marks fit the slots
pub record CanTake (es : List Entry) (from : StateCode) (piece : List ℕ) (slots n : ℕ) (code : StateCode) (ms : List Marked) : Type 0 where
  pub within : n ≤ length piece
  pub traced : trace es from 0 (take n piece) ≡ Some (code, ms)
  pub fits : length ms ≤ slots

-- n is the largest such count: every other that can be taken is at most as large
pub record TakesMost (es : List Entry) (from : StateCode) (piece : List ℕ) (slots n : ℕ) (code : StateCode) (ms : List Marked) : Type 0 where
  pub can : CanTake es from piece slots n code ms
  pub most : (m : ℕ) (c : StateCode) (ks : List Marked) → CanTake es from piece slots m c ks → m ≤ n

-- the searches: one for each byte taken, and one more where bytes are left
abbrev pub searches_for : ℕ → ℕ → ℕ
searches_for taken bytes = taken + cond (nat_lt taken bytes) 1 0

-- the answer tells the largest count and the code reached; the buffer has the marks in front, and beyond them what it had
pub record Tells (es : List Entry) (from : StateCode) (piece : List ℕ) (buffer after : List Mark) (p : Progress) : Type 0 where
  pub ms : List Marked
  pub takes : TakesMost es from piece (length buffer) p.taken p.code ms
  pub count : p.marks ≡ length ms
  pub written : after ≡ map held ms ++ drop (length ms) buffer
  pub searched : p.searches ≡ searches_for p.taken (length piece)

-- a byte is left after those taken, and the code reached has no entry for it
abbrev pub NextLacksEntry : List Entry → List ℕ → Progress → Type 0
NextLacksEntry es piece p = (p.taken < length piece) × (first es p.code.0 (slice_index piece p.taken) ≡ None)

-- a walk that ends well: the piece is not too long, no byte without an entry ended it, and so marks stopped it where bytes are left
pub record Walked (es : List Entry) (from : StateCode) (piece : List ℕ) (buffer after : List Mark) (p : Progress) : Type 0 where
  pub short : length piece ≤ longest
  pub tells : Tells es from piece buffer after p
  pub entry : NextLacksEntry es piece p → ⊥
  pub full : p.marks_full ≡ nat_lt p.taken (length piece)

-- a walk that met a byte without an entry: the answer is as at a stop, but says that marks did not stop it
pub record Unmatched (es : List Entry) (from : StateCode) (piece : List ℕ) (buffer after : List Mark) (p : Progress) : Type 0 where
  pub short : length piece ≤ longest
  pub tells : Tells es from piece buffer after p
  pub entry : NextLacksEntry es piece p
  pub full : p.marks_full ≡ false

-- a walk declines by refusal 9 where the piece is too long, and leaves the buffer as it was; and by refusal 7 where a byte has no entry
abbrev pub Declines : List Entry → StateCode → List ℕ → List Mark → List Mark → Refusal → Type 0
Declines es from piece buffer after why =
    (KnownBy why 9 [] × (longest < length piece) × (after ≡ buffer)) ⊎ ((p : Progress) × KnownBy why 7 (progress_values p) × Unmatched es from piece buffer after p)

-- what a walk answers, and the buffer after it
abbrev pub Outcome : List Entry → StateCode → List ℕ → List Mark → List Mark → Result Progress Refusal → Type 0
Outcome es from piece buffer after (Ok p) = Walked es from piece buffer after p
Outcome es from piece buffer after (Err why) = Declines es from piece buffer after why

-- no other answer and no other buffer after it would do
abbrev pub Only : List Entry → StateCode → List ℕ → List Mark → List Mark → Result Progress Refusal → Type 0
Only es from piece buffer after r = (other : Result Progress Refusal) (later : List Mark) → Outcome es from piece buffer later other → (other ≡ r) × (later ≡ after)
