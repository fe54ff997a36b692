use Rattle.std.proofs.Common.{vec_items}
use Rattle.scanner.specs.Scanners.{seen}
use Rattle.commission.proofs.SoFar.{SoFar}
use Rattle.commission.proofs.run.run.Given as goal

abbrev pub invariant-loop-call : goal.invariant-loop-call
invariant-loop-call g l =
    SoFar (g.C.Card.size l.initial.scanner.card) l.calls l.call-index (vec_items l.initial.answers) (vec_items l.answers) (seen g.C.Card.entries g.C.Card.size l.scanner)
