use Rattle.std.proofs.Common.{◌≡◌}
use Rattle.automaton.specs.Sound.{meant}
use Rattle.forest.specs.Deferment.{kruskal, pairs_of}
use Rattle.forest.specs.Joining.{trees_in}
use Rattle.forest.proofs.joining.Grove.join_row.Given as goal

-- the pairs with the states below t have had their turns
abbrev pub invariant-loop-t : goal.invariant-loop-t
invariant-loop-t l = trees_in l.self ≡ kruskal (trees_in l.initial.self) (pairs_of (meant l.counts.automaton) l.shared l.s.0 l.t)
