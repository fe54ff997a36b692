use Rattle.std.proofs.Common.{refl}
use Rattle.prefix.specs.States.{flags, successors}
use Rattle.prefix.specs.Listed.{all_bytes, numbered}
use Rattle.prefix.proofs.Listing.{bounded, list_fewest, root_below, root_least}
use Rattle.prefix.proofs.Prefixes.{small}
use Rattle.prefix.proofs.lists.shortest_length.Goals as goal

pub node-requires : goal.node-requires
node-requires c = root_below _ all_bytes c.new-subtrees.result c.add-root.new.self c.add-root.result c.new-subtrees.ensures.row c.add-root.ensures

pub returns : goal.returns
returns c =
    let row = numbered c.args.row.now in
    let deferrable = flags c.args.deferrable.now in
    let least = root_least _ all_bytes c.new-subtrees.result c.add-root.new.self c.add-root.result c.new-subtrees.ensures.row c.add-root.ensures c.node.result c.node.ensures in
    record {
      fewest = list_fewest row deferrable (successors c.args.row.now) (λ byte h. refl) c.node.result.least least;
      bound = bounded c.node.result.least _ least (small row deferrable 0 0).1;
    }
