use Rattle.std.proofs.Common.{arith}
use Rattle.forest.specs.Joining.{trees_in}
use Rattle.forest.proofs.Groves.{one_tree, one_label}
use Rattle.forest.proofs.joining.Grove.is_one_tree.Goals as goal

pub returns : goal.returns
unfolding trees_in
returns c =
    let told = rw c.from.ensures at c.are_all.ensures in
    let grove = c.args.self.now in (
      λ yes. one_tree grove.labels grove.joins c.args.states (omega arith) (told.0 yes),
      λ one. told.1 (one_label grove.labels grove.joins c.args.states (omega arith) one),
    )
