use Rattle.std.proofs.Common.{sym, ◌∙◌, arith}
use Rattle.column.proofs.Scans.{hit_below}
use Rattle.column.proofs.bitmaps.find.Goals as goal

pub returns-then-index-count : goal.returns-then-index-count
returns-then-index-count c =
    let found = c.in-Some.ensures in (
      c.if-index-count.true,
      sym (c.join.ensures c.in-Some.place found.0) ∙ found.1,
      hit_below c.args.words.now c.args.code c.args.byte c.loop-block.block c.join.result c.in-Some.place c.join.ensures (omega (arith, found.0)) found.2 c.loop-block.invariant,
    )

pub returns-else-index-count : goal.returns-else-index-count
returns-else-index-count c = λ j h.
    let found = c.in-Some.ensures in
    hit_below c.args.words.now c.args.code c.args.byte c.loop-block.block c.join.result c.in-Some.place c.join.ensures (omega (arith, found.0)) found.2 c.loop-block.invariant j (omega arith)

pub loop-block-preserved : goal.loop-block-preserved
loop-block-preserved c = λ j h.
    hit_below c.args.words.now c.args.code c.args.byte c.loop-block.block c.join.result 64 c.join.ensures (omega arith) c.in_default.ensures c.loop-block.invariant j (omega arith)
