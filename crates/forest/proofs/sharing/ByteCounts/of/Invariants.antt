use Rattle.automaton.specs.Sound.{meant}
use Rattle.forest.specs.Sharing.{RowsCounted, RowsMet}
use Rattle.forest.proofs.sharing.ByteCounts.of.Given as goal

-- the rows below s are counted, and their counts are met
abbrev pub invariant-loop-s : goal.invariant-loop-s
invariant-loop-s l = RowsCounted (meant l.automaton) l.shared l.s × RowsMet (meant l.automaton) l.met l.s
