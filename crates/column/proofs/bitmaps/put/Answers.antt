use Rattle.column.proofs.Bitwise.{bit_put_set, bit_put_clear}
use Rattle.column.proofs.bitmaps.put.Goals as goal

pub returns-then-on : goal.returns-then-on
returns-then-on c = λ q p h. simp c.if-on.true (bit_put_set c.args.words.now c.args.index c.args.place q p c.requires.within c.requires.place_bound)

pub returns-else-on : goal.returns-else-on
returns-else-on c = λ q p h. simp c.if-on.false (bit_put_clear c.args.words.now c.args.index c.args.place q p c.requires.within c.requires.place_bound h)
