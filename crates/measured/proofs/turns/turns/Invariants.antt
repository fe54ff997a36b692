use Rattle.gateway.specs.Gateways.{seen}
use Rattle.measured.specs.Turns.{Turned}
use Rattle.measured.proofs.turns.turns.Given as goal

-- the turns so far have led here
abbrev pub invariant-loop-round : goal.invariant-loop-round
invariant-loop-round g l =
    Turned l.buffer l.quota (seen g.C.Card.entries g.C.Card.size l.fn.gateway) l.fn.marks l._round (seen g.C.Card.entries g.C.Card.size l.gateway) l.marks l.sum
