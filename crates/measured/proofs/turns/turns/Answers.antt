use Rattle.measured.specs.Turns.{none, more}
use Rattle.measured.proofs.turns.turns.Goals as goal

pub loop-round-init : goal.loop-round-init
loop-round-init g c = none

pub loop-round-preserved : goal.loop-round-preserved
loop-round-preserved g c = more c.loop-round.invariant c.turn-sum.ensures
