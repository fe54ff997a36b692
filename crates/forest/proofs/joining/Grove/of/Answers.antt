use Rattle.std.proofs.Common.{◌-◌, ap, ◌∙◌, arith}
use Rattle.automaton.specs.Sound.{meant}
use Rattle.forest.specs.Deferment.{Trees, kruskal, ranked, trees_of}
use Rattle.forest.specs.Joining.{trees_in}
use Rattle.forest.proofs.Groves.{ranked_start, ranked_more, ranked_end}
use Rattle.forest.proofs.joining.Grove.of.Goals as goal

pub loop-shared-init : goal.loop-shared-init
loop-shared-init c = ranked_start (meant c.args.counts.now.automaton) (trees_in c.alone-grove.result) c.alone-grove.ensures

pub loop-shared-preserved : goal.loop-shared-preserved
loop-shared-preserved c =
    let a = meant c.args.counts.now.automaton in
    let shared = c.loop-shared.shared in
    ap (λ (f : Trees). kruskal f (ranked a (shared - 1 - 31))) c.join_sharing.ensures
    ∙ ranked_more a (trees_in c.loop-shared.grove) (trees_of a) (shared - 31) (shared - 1 - 31) shared (omega arith) (omega arith) c.loop-shared.invariant

pub returns : goal.returns
returns c =
    let a = meant c.args.counts.now.automaton in
    ranked_end a (trees_in c.loop-shared.grove) (trees_of a) (c.loop-shared.shared - 31) (omega arith) c.loop-shared.invariant
