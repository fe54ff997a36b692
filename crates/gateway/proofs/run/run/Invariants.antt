use Rattle.std.proofs.Common.{vec_items}
use Rattle.gateway.specs.Gateways.{seen}
use Rattle.gateway.proofs.SoFar.{SoFar}
use Rattle.gateway.proofs.run.run.Given as goal

abbrev pub invariant-loop-call : goal.invariant-loop-call
invariant-loop-call g l =
    SoFar (g.C.Card.size l.initial.gateway.card) l.calls l.call-index (vec_items l.initial.answers) (vec_items l.answers) (seen g.C.Card.entries g.C.Card.size l.gateway)
