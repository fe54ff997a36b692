use Rattle.std.proofs.Common.{length}
use Rattle.pairs.specs.Cards.{listed}
use Rattle.pair_walk.proofs.Steps.{Here}
use Rattle.pair_walk.proofs.walk.walk.Given as goal

abbrev pub invariant-loop-rest : goal.invariant-loop-rest
invariant-loop-rest g l = Here (g.C.Card.entries l.one) (listed l.two) l.fn.from l.piece l.initial.marks l.marks l.way l.rest

abbrev pub decreases-loop-rest : goal.decreases-loop-rest
decreases-loop-rest g l = length l.rest
