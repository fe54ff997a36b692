use Rattle.std.proofs.Common.{◌≡◌, ◌-◌}
use Rattle.automaton.specs.Sound.{meant}
use Rattle.forest.specs.Deferment.{kruskal, ranked, trees_of}
use Rattle.forest.specs.Joining.{trees_in}
use Rattle.forest.proofs.joining.Grove.of.Given as goal

-- the pairs that are left make the trees of the automaton
abbrev pub invariant-loop-shared : goal.invariant-loop-shared
invariant-loop-shared l = kruskal (trees_in l.grove) (ranked (meant l.counts.automaton) (l.shared - 31)) ≡ trees_of (meant l.counts.automaton)
