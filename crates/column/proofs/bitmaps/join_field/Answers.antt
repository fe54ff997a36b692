use Rattle.std.proofs.Common.{◌≡◌, ap, ◌∙◌, arith}
use Rattle.column.specs.Bitmaps.{agrees}
use Rattle.column.proofs.Bitwise.{bit_ones}
use Rattle.column.proofs.Fields.{join_more}
use Rattle.column.proofs.bitmaps.join_field.Goals as goal

pub loop-k-init : goal.loop-k-init
loop-k-init c = bit_ones

pub loop-k-preserved : goal.loop-k-preserved
loop-k-preserved c = λ p h. join_more c.args.words.now c.args.base p c.args.number c.loop-k.k c.loop-k.joined (c.loop-k.invariant p h)

pub returns : goal.returns
returns c = λ p h. let all : c.loop-k.k ≡ c.args.width = omega arith in c.loop-k.invariant p h ∙ ap (agrees c.args.words.now c.args.base p c.args.number) all
