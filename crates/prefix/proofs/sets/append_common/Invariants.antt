use Rattle.std.proofs.Common.{◌≡◌, ◌++◌, nat_eq, slice_range}
use Rattle.prefix.specs.Tree.{common}
use Rattle.prefix.specs.Parts.{part_of}
use Rattle.prefix.proofs.sets.append_common.Given as goal

-- what the states so far of the one part have in common with the other part is appended
abbrev pub invariant-loop-i : goal.invariant-loop-i
invariant-loop-i l = l.states.items ≡ l.initial.states.items ++ common nat_eq (slice_range l.initial.states.items l.fn.low.first l.i) (part_of l.initial.states.items l.high)
