use Rattle.scanner.proofs.Walking.{Here}
use Rattle.scanner.proofs.walk.walk.Given as goal

abbrev pub invariant-loop-i : goal.invariant-loop-i
invariant-loop-i g l = Here (g.C.Card.entries l.card) l.initial.code l.piece l.initial.marks l.marks l.i l.written l.code
