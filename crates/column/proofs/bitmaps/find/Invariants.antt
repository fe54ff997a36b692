use Rattle.std.proofs.Common.{◌≡◌, ℕ, ◌*◌, ◌<◌, false}
use Rattle.column.specs.Bitmaps.{hit}
use Rattle.column.proofs.bitmaps.find.Given as goal

abbrev pub invariant-loop-block : goal.invariant-loop-block
invariant-loop-block l = (j : ℕ) → j < 64 * l.block → hit l.words l.code l.byte j ≡ false
