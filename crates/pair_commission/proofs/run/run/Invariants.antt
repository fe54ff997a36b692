use Rattle.std.proofs.Common.{vec_items}
use Rattle.pairs.specs.Cards.{places}
use Rattle.pair_scanner.specs.Scanners.{seen}
use Rattle.pair_commission.proofs.SoFar.{SoFar}
use Rattle.pair_commission.proofs.run.run.Given as goal

abbrev pub invariant-loop-call : goal.invariant-loop-call
invariant-loop-call g l =
    SoFar (places l.initial.two) (g.C.Card.size l.initial.one) l.calls l.call-index (vec_items l.initial.answers) (vec_items l.answers) (seen g.C.Card.entries g.C.Card.size l.two l.one l.scanner)
