use Rattle.std.proofs.Common.{◌≡◌, ◌++◌, slice_range}
use Rattle.prefix.proofs.sets.append_part.Given as goal

-- the states so far are appended
abbrev pub invariant-loop-i : goal.invariant-loop-i
invariant-loop-i l = l.states.items ≡ l.initial.states.items ++ slice_range l.initial.states.items l.fn.part.first l.i
