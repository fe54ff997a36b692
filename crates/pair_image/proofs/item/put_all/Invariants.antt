use Rattle.std.proofs.Common.{◌≡◌, take}
use Rattle.std.specs.List.{flat_map}
use Rattle.fields.specs.Fields.{written}
use Rattle.pair_image.proofs.item.put_all.Given as goal

-- the items so far are written, and nothing else
abbrev pub invariant-loop-index : goal.invariant-loop-index
invariant-loop-index g l = l.out ≡ written l.initial.out l.first (flat_map g.T.Writable.bytes (take l.index l.items))
