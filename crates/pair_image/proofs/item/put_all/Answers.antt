use Rattle.std.proofs.Common.{ℕ, ◌+◌, ◌*◌, sym, ap, ◌∙◌, arith}
use Rattle.fields.specs.Fields.{written}
use Rattle.fields.proofs.Writes.{written_none, turn, turned}
use Rattle.pair_image.proofs.item.put_all.Goals as goal

pub loop-index-init : goal.loop-index-init
loop-index-init g c = sym (written_none c.args.out.now c.args.first)

pub loop-index-preserved : goal.loop-index-preserved
loop-index-preserved g c =
    let item = c.index-items-index.result in
    let bytes = g.T.Writable.bytes in
    let place = ap (λ (s : ℕ). c.args.first + s * c.loop-index.index) c.SIZE.ensures in
    turn bytes g.T.Item.SIZE g.met.T.Writable.long c.args.out.now c.loop-index.out c.put.new.out (bytes item) c.args.items.now c.args.first c.loop-index.index item
    (omega arith) (omega arith) c.loop-index.invariant (ap bytes c.index-items-index.is) (c.put.ensures ∙ ap (λ (k : ℕ). written c.loop-index.out k (bytes item)) place)

pub returns : goal.returns
returns g c = turned g.T.Writable.bytes g.T.Item.SIZE g.met.T.Writable.long c.args.out.now c.loop-index.out c.args.items.now c.args.first c.loop-index.index (omega arith) c.loop-index.invariant
