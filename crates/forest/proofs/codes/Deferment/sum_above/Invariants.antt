use Rattle.std.proofs.Common.{◌≡◌, ◌+◌, ◌<◌}
use Rattle.forest.specs.Arrays.{sum_above}
use Rattle.forest.specs.Held.{held}
use Rattle.forest.proofs.codes.Deferment.sum_above.Given as goal

-- what is added so far, and the amounts above the state reached, are the whole sum
abbrev pub invariant-loop-at : goal.invariant-loop-at
invariant-loop-at l =
    (l.at < (held l.self).states)
    × (l.sum + sum_above (held l.self) l.amounts l.at ≡ l.own + sum_above (held l.self) l.amounts l.fn.s.0)

abbrev pub decreases-loop-at : goal.decreases-loop-at
decreases-loop-at l = (held l.self).depth l.at
