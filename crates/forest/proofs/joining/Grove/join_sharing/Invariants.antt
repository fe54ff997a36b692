use Rattle.std.proofs.Common.{◌≡◌}
use Rattle.automaton.specs.Sound.{meant}
use Rattle.forest.specs.Deferment.{kruskal, pairs_below}
use Rattle.forest.specs.Joining.{trees_in}
use Rattle.forest.proofs.joining.Grove.join_sharing.Given as goal

-- the pairs with a smaller state below s have had their turns
abbrev pub invariant-loop-s : goal.invariant-loop-s
invariant-loop-s l = trees_in l.self ≡ kruskal (trees_in l.initial.self) (pairs_below (meant l.counts.automaton) l.shared l.s)
