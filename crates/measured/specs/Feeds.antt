-- What the measured feeds answer. Assumes nothing.
use Rattle.std.specs.Prelude.{◌≡◌, ℕ, ◌+◌, ◌*◌, ◌%◌, ◌^◌, List, fold, length, take, Ok, Err, Option, Result}
use Rattle.ternary.specs.declared.entry.Entry.{Entry}
use Rattle.ternary.specs.declared.refusal.Refusal.{Refusal}
use Rattle.ternary.specs.declared.words.Mark.{Mark}
use Rattle.ternary.specs.declared.words.Progress.{Progress}
use Rattle.ternary.specs.Refusals.{number, values}
use Rattle.automaton.specs.Limits.{Handed}
use Rattle.image.specs.Format.{decode}
use Rattle.table.specs.Acceptance.{Acceptable, code_of}
use Rattle.scanner.specs.Book.{LoadRefuses}
use Rattle.scanner.specs.Scanners.{FeedAnswer, at_start}
use Rattle.scanner.specs.declared.scanner.Position.{Position}

-- a sum with a number more
abbrev pub added : ℕ → ℕ → ℕ
added sum n = (sum * 31 % 2 ^ 64 + n) % 2 ^ 64

-- a sum with a mark more
abbrev pub marked : ℕ → Mark → ℕ
marked sum m = added sum (256 * m.place + m.class)

-- a sum with some marks more
abbrev pub marks_sum : List Mark → ℕ → ℕ
marks_sum ms sum = fold marked sum ms

-- a sum with the bytes that a feed took and the code that it reached
abbrev pub progress_sum : Progress → ℕ → ℕ
progress_sum p sum = added (added sum p.taken) p.code.0

-- a sum with what a feed answers and the marks that it left, or with the number of a refusal
abbrev pub fed_sum : Result Progress Refusal → List Mark → ℕ → ℕ
fed_sum (Ok p) marks sum = marks_sum (take p.marks marks) (progress_sum p sum)
fed_sum (Err why) marks sum = added sum (number why)

-- a feed leads from one position, mark buffer and sum to the next
abbrev pub FeedTold : List Entry → List ℕ → Option Position → Option Position → List Mark → List Mark → ℕ → ℕ → Type 0
FeedTold es piece at at' marks marks' sum sum' = (r : Result Progress Refusal) × FeedAnswer es at at' piece marks marks' r × (sum' ≡ fed_sum r marks' sum)

-- so many feeds of one piece lead from a position and a mark buffer to others, and to a sum
pub data Fed (es : List Entry) (piece : List ℕ) (at : Option Position) (marks : List Mark) : ℕ → Option Position → List Mark → ℕ → Type 0 where
  none : Fed es piece at marks 0 at marks 0
  more : {n : ℕ} {at' at'' : Option Position} {marks' marks'' : List Mark} {sum sum' : ℕ} → Fed es piece at marks n at' marks' sum
      → FeedTold es piece at' at'' marks' marks'' sum sum' → Fed es piece at marks (n + 1) at'' marks'' sum'

-- what is answered: the number of a refused load into 4,096 places, or the sum of so many feeds with 4,096 mark slots
pub data FeedsTold (a : Handed) (image piece : List ℕ) (n : ℕ) : ℕ → Type 0 where
  refused : (why : Refusal) → LoadRefuses 4096 a image (number why) (values why) → FeedsTold a image piece n (number why)
  fed : {marks marks' : List Mark} {at : Option Position} {sum : ℕ} → Acceptable a image → length marks ≡ 4096
      → Fed (decode image).entries piece (at_start (code_of (decode image) a.start)) marks n at marks' sum → FeedsTold a image piece n sum
