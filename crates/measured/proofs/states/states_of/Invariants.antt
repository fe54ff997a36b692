use Rattle.std.proofs.Common.{◌≡◌, map, take}
use Rattle.measured.specs.Told.{state_no}
use Rattle.measured.proofs.states.states_of.Given as goal

-- the states so far are those of the numbers so far
abbrev pub invariant-loop-number : goal.invariant-loop-number
invariant-loop-number l = l.states.items ≡ map state_no (take l.number-index l.numbers)
