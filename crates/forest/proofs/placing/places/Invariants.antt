use Rattle.automaton.specs.Sound.{meant}
use Rattle.forest.specs.Deferment.{trees_of}
use Rattle.forest.specs.Placing.{Placed}
use Rattle.forest.proofs.placing.places.Given as goal

-- the states at depth r or less are placed
abbrev pub invariant-loop-r : goal.invariant-loop-r
invariant-loop-r l = Placed (meant l.counts.automaton) (trees_of (meant l.counts.automaton)) l.r l.places
