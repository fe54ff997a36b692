-- What the measured feeds on a two-byte and a one-byte card answer. Assumes nothing.
use Rattle.std.specs.Prelude.{◌≡◌, ℕ, ◌+◌, ◌*◌, List, fold, length, take, Ok, Err, Option, Result}
use Rattle.std.specs.Int.{rotate_left, w64}
use Rattle.std.specs.Int.Bits.{bit_xor}
use Rattle.ternary.specs.declared.entry.Entry.{Entry}
use Rattle.ternary.specs.declared.refusal.Refusal.{Refusal}
use Rattle.ternary.specs.declared.words.Mark.{Mark}
use Rattle.ternary.specs.declared.words.Progress.{Progress}
use Rattle.ternary.specs.Refusals.{number, values}
use Rattle.automaton.specs.Limits.{Handed}
use Rattle.image.specs.Format.{decode}
use Rattle.table.specs.Acceptance.{code_of}
use Rattle.pairs.specs.declared.pair.PairEntry.{PairEntry}
use Rattle.pair_image.specs.Format as pair
use Rattle.pair_scanner.specs.Book.{LoadRefuses, Loadable}
use Rattle.pair_scanner.specs.Scanners.{FeedAnswer, at_start}
use Rattle.pair_scanner.specs.declared.lent.Position.{Position}

-- a sum with a number more: its bits turned by five places, and those of the number put in
abbrev pub mixed : ℕ → ℕ → ℕ
mixed sum n = bit_xor (rotate_left w64 sum 5) n

-- a sum with a mark more
abbrev pub marked : ℕ → Mark → ℕ
marked sum m = mixed sum (256 * m.place + m.class)

-- a sum with some marks more
abbrev pub marks_sum : List Mark → ℕ → ℕ
marks_sum ms sum = fold marked sum ms

-- a sum with the bytes that a feed took, the code that it reached and the searches that it made
abbrev pub progress_sum : Progress → ℕ → ℕ
progress_sum p sum = mixed (mixed (mixed sum p.taken) p.code.0) p.searches

-- a sum with what a feed answers and the marks that it left, or with the number of a refusal
abbrev pub fed_sum : Result Progress Refusal → List Mark → ℕ → ℕ
fed_sum (Ok p) marks sum = marks_sum (take p.marks marks) (progress_sum p sum)
fed_sum (Err why) marks sum = mixed sum (number why)

-- a feed leads from one position, mark buffer and sum to the next
abbrev pub PairFeedTold : List PairEntry → List Entry → List ℕ → Option Position → Option Position → List Mark → List Mark → ℕ → ℕ → Type 0
PairFeedTold ds es piece at at' marks marks' sum sum' =
    (r : Result Progress Refusal) × FeedAnswer ds es at at' piece marks marks' r × (sum' ≡ fed_sum r marks' sum)

-- so many feeds of one piece lead from a position and a mark buffer to others, and to a sum
pub data PairFed (ds : List PairEntry) (es : List Entry) (piece : List ℕ) (at : Option Position) (marks : List Mark) : ℕ → Option Position → List Mark → ℕ → Type 0 where
  none : PairFed ds es piece at marks 0 at marks 0
  more : {n : ℕ} {at' at'' : Option Position} {marks' marks'' : List Mark} {sum sum' : ℕ} → PairFed ds es piece at marks n at' marks' sum
      → PairFeedTold ds es piece at' at'' marks' marks'' sum sum' → PairFed ds es piece at marks (n + 1) at'' marks'' sum'

-- what is answered: the number of a load that is refused on cards of 4,096 places, or the sum of so many feeds with 4,096 mark slots
pub data PairFeedsTold (a : Handed) (pair_image image piece : List ℕ) (n : ℕ) : ℕ → Type 0 where
  refused : (why : Refusal) → LoadRefuses 4096 4096 a pair_image image (number why) (values why) → PairFeedsTold a pair_image image piece n (number why)
  fed : {marks marks' : List Mark} {at : Option Position} {sum : ℕ} → Loadable 4096 4096 a pair_image image → length marks ≡ 4096
      → PairFed (pair.decode pair_image).entries (decode image).entries piece (at_start (code_of (decode image) a.start)) marks n at marks' sum
      → PairFeedsTold a pair_image image piece n sum
