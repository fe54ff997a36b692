use Rattle.std.proofs.Common.{ℕ, ◌+◌, ◌*◌, map, drop, is_some, sym, ap, ◌∙◌, arith}
use Rattle.std.specs.List.{range_with_len}
use Rattle.ternary.specs.Refusals.{verdict}
use Rattle.ternary.proofs.Verdicts.{passed_none, stopped_at}
use Rattle.fields.specs.Fields.{each_fault}
use Rattle.fields.proofs.Faults.{each_more, each_found, each_all}
use Rattle.pair_image.specs.Rules.{item_in}
use Rattle.pair_image.proofs.item.check_in.Goals as goal

pub returns-in_err-check : goal.returns-in_err-check
returns-in_err-check g c =
    let size = g.T.Item.SIZE in
    let i = c.loop-index.index in
    let at = c.args.first + c.SIZE.result * i in
    let place = ap (λ (s : ℕ). c.args.first + s * i) c.SIZE.ensures in
    let fault = g.T.Item.fault c.args.limit at c.read.result in
    let item = item_in size g.T.Readable.said c.args.bytes.now c.args.first in
    stopped_at c.from_residual.result _ _ _ fault c.from_residual.ensures.1 c.in_err-check.ensures
    (c.loop-index.invariant ∙ ap (λ (k : ℕ). each_fault (g.T.Item.fault c.args.limit) size k (drop i (map item (range_with_len 0 c.args.count)))) (sym place))
    (each_found (g.T.Item.fault c.args.limit) size item c.args.count at (at + size) i c.loop-index-test.true (omega arith)
    fault (ap (g.T.Item.fault c.args.limit at) (c.read.ensures ∙ ap (g.T.Readable.said c.args.bytes.now) place)))

pub loop-index-preserved : goal.loop-index-preserved
loop-index-preserved g c =
    let size = g.T.Item.SIZE in
    let i = c.loop-index.index in
    let at = c.args.first + c.SIZE.result * i in
    let place = ap (λ (s : ℕ). c.args.first + s * i) c.SIZE.ensures in
    let fault = g.T.Item.fault c.args.limit at c.read.result in
    let item = item_in size g.T.Readable.said c.args.bytes.now c.args.first in
    c.loop-index.invariant
    ∙ (ap (λ (k : ℕ). each_fault (g.T.Item.fault c.args.limit) size k (drop i (map item (range_with_len 0 c.args.count)))) (sym place)
    ∙ each_more (g.T.Item.fault c.args.limit) size item c.args.count at (c.args.first + size * (i + 1)) i c.loop-index-test.true (omega (arith, place))
    fault (ap (g.T.Item.fault c.args.limit at) (c.read.ensures ∙ ap (g.T.Readable.said c.args.bytes.now) place)) (ap is_some (passed_none fault _ c.in_ok-check.ensures)))

pub returns : goal.returns
returns g c =
    let size = g.T.Item.SIZE in
    ap verdict (sym (c.loop-index.invariant ∙ each_all (g.T.Item.fault c.args.limit) size (item_in size g.T.Readable.said c.args.bytes.now c.args.first) c.args.count (c.args.first + size * c.loop-index.index) c.loop-index.index c.loop-index-test.false))
