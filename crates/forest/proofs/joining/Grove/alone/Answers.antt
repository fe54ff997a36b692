use Rattle.std.proofs.Common.{replicate, None, arith, rules}
use Rattle.forest.specs.Joining.{trees_in}
use Rattle.forest.proofs.Groves.{none_everywhere, alone_numbered, alone_grown}
use Rattle.forest.proofs.joining.Grove.alone.Goals as goal

pub invariant_of-result : goal.invariant_of-result
invariant_of-result c = record {
  numbered = alone_numbered c.from_fn.result (replicate 512 None) (omega arith)
      (λ k h. search (rules, (c.from_fn.ensures.items.at k (record { 0 = 0 }) (omega arith)).2)) (none_everywhere 512);
}

pub returns : goal.returns
unfolding trees_in
returns c = alone_grown c.from_fn.result (replicate 512 None) (omega arith)
    (λ k h. search (rules, (c.from_fn.ensures.items.at k (record { 0 = 0 }) (omega arith)).2)) (none_everywhere 512)
