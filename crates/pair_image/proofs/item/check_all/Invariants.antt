use Rattle.std.proofs.Common.{◌≡◌, ◌+◌, ◌*◌, drop}
use Rattle.fields.specs.Fields.{each_fault}
use Rattle.pair_image.proofs.item.check_all.Given as goal

-- no item so far has a fault
abbrev pub invariant-loop-index : goal.invariant-loop-index
invariant-loop-index g l =
    let size = g.T.Item.SIZE in
    each_fault (g.T.Item.fault l.limit) size l.first l.items ≡ each_fault (g.T.Item.fault l.limit) size (l.first + size * l.index) (drop l.index l.items)
