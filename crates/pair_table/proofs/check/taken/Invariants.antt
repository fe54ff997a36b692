use Rattle.std.proofs.Common.{◌≡◌, ◌++◌}
use Rattle.pair_table.specs.Steps.{unread}
use Rattle.pair_table.proofs.check.taken.Given as goal

-- what is taken so far and what is still to be read are all that there was
abbrev pub invariant-loop-item : goal.invariant-loop-item
invariant-loop-item g l =
    (goal.iterator-loop-item g).can_next l.item-iterator
    × (goal.iterator-loop-item g).is_finite l.item-iterator
    × (l.list.items ++ unread g.T.Listed.listed l.item-iterator ≡ unread g.T.Listed.listed l.fn.items)
