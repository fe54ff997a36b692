use Rattle.std.proofs.Common.{◌≡◌, ℕ, ◌<◌}
use Rattle.column.specs.Bitmaps.{agrees}
use Rattle.ternary.specs.Bits.{bit}
use Rattle.column.proofs.bitmaps.join_field.Given as goal

abbrev pub invariant-loop-k : goal.invariant-loop-k
invariant-loop-k l = (p : ℕ) → p < 64 → bit l.joined p ≡ agrees l.words l.base p l.number l.k
