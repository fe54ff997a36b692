use Rattle.std.proofs.Common.{arith}
use Rattle.column.proofs.Bitwise.{trailing_below, trailing_at}
use Rattle.column.proofs.bitmaps.lowest.Goals as goal

pub returns-then-place-lt64 : goal.returns-then-place-lt64
returns-then-place-lt64 c = (c.if-place-lt64.true, trailing_at 64 c.args.word c.if-place-lt64.true, trailing_below 64 c.args.word)

pub returns-else-place-lt64 : goal.returns-else-place-lt64
returns-else-place-lt64 c = λ p h. trailing_below 64 c.args.word p (omega arith)
