use Rattle.std.proofs.Common.{◌≡◌, ◌+◌, ◌*◌, map, drop}
use Rattle.std.specs.List.{range_with_len}
use Rattle.fields.specs.Fields.{each_fault}
use Rattle.pair_image.specs.Rules.{item_in}
use Rattle.pair_image.proofs.item.check_in.Given as goal

-- no item so far has a fault
abbrev pub invariant-loop-index : goal.invariant-loop-index
invariant-loop-index g l =
    let size = g.T.Item.SIZE in
    let items = map (item_in size g.T.Readable.said l.bytes l.first) (range_with_len 0 l.count) in
    each_fault (g.T.Item.fault l.limit) size l.first items ≡ each_fault (g.T.Item.fault l.limit) size (l.first + size * l.index) (drop l.index items)
