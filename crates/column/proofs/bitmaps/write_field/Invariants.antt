use Rattle.column.specs.Bitmaps.{Kept, Marked}
use Rattle.column.proofs.bitmaps.write_field.Given as goal

abbrev pub invariant-loop-k : goal.invariant-loop-k
invariant-loop-k l = Kept l.initial.words l.words l.base l.k l.place × Marked l.words l.base l.k l.place l.value l.mask
