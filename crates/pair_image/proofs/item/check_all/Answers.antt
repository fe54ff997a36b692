use Rattle.std.proofs.Common.{ℕ, ◌+◌, ◌*◌, drop, is_some, sym, ap, ◌∙◌, arith}
use Rattle.ternary.specs.Refusals.{verdict}
use Rattle.ternary.proofs.Verdicts.{passed_none, stopped_at}
use Rattle.fields.specs.Fields.{each_fault}
use Rattle.fields.proofs.Faults.{list_more, list_found, list_all}
use Rattle.pair_image.proofs.item.check_all.Goals as goal

pub returns-in_err-check : goal.returns-in_err-check
returns-in_err-check g c =
    let size = g.T.Item.SIZE in
    let i = c.loop-index.index in
    let at = c.args.first + c.SIZE.result * i in
    let place = ap (λ (s : ℕ). c.args.first + s * i) c.SIZE.ensures in
    let item = c.index-items-index.result in
    let fault = g.T.Item.fault c.args.limit at item in
    stopped_at c.from_residual.result _ _ _ fault c.from_residual.ensures.1 c.in_err-check.ensures
    (c.loop-index.invariant ∙ ap (λ (k : ℕ). each_fault (g.T.Item.fault c.args.limit) size k (drop i c.args.items.now)) (sym place))
    (list_found (g.T.Item.fault c.args.limit) size c.args.items.now at (at + size) i (omega arith) (omega arith) fault item (ap (g.T.Item.fault c.args.limit at) c.index-items-index.is))

pub loop-index-preserved : goal.loop-index-preserved
loop-index-preserved g c =
    let size = g.T.Item.SIZE in
    let i = c.loop-index.index in
    let at = c.args.first + c.SIZE.result * i in
    let place = ap (λ (s : ℕ). c.args.first + s * i) c.SIZE.ensures in
    let item = c.index-items-index.result in
    let fault = g.T.Item.fault c.args.limit at item in
    c.loop-index.invariant
    ∙ (ap (λ (k : ℕ). each_fault (g.T.Item.fault c.args.limit) size k (drop i c.args.items.now)) (sym place)
    ∙ list_more (g.T.Item.fault c.args.limit) size c.args.items.now at (c.args.first + size * (i + 1)) i (omega arith) (omega (arith, place))
    fault item (ap (g.T.Item.fault c.args.limit at) c.index-items-index.is) (ap is_some (passed_none fault _ c.in_ok-check.ensures)))

pub returns : goal.returns
returns g c =
    let size = g.T.Item.SIZE in
    ap verdict (sym (c.loop-index.invariant ∙ list_all (g.T.Item.fault c.args.limit) size c.args.items.now (c.args.first + size * c.loop-index.index) c.loop-index.index (omega arith)))
