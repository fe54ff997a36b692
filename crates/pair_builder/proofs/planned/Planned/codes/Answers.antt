use Rattle.std.proofs.Common.{[], ◌∷◌, ◌++◌, length, sym, ap, ◌∙◌, arith}
use Rattle.std.proofs.lemmas.List.FromFn.{map-range_with_len_more, length-map-range_with_len}
use Rattle.automaton.specs.Sound.{meant}
use Rattle.forest.specs.Deferment.{forest_of}
use Rattle.forest.proofs.Plans.{placement_at}
use Rattle.builder.specs.Lists.{code_of}
use Rattle.pair_builder.proofs.planned.Planned.codes.Goals as goal

pub push-requires : goal.push-requires
push-requires c = grind (arith, ap length c.loop-placement.invariant, length-map-range_with_len, c.placements-placement-items.ensures.few)

pub loop-placement-preserved : goal.loop-placement-preserved
loop-placement-preserved c =
    let self = c.args.self.now in
    let a = meant self.automaton in
    let s = c.loop-placement.placement-index in
    let given = c.placements-placement-items in
    let is = placement_at (forest_of a) a.states s given.result.now _ (given.ensures.placed a self.planned) (omega (arith, c.loop-placement-test.true, self.planned.0, ap length given.ensures.value)) in
    c.push.ensures.items ∙ ((λ i. c.loop-placement.invariant i ++ (is i).code ∷ []) ∙ sym (map-range_with_len_more (code_of a) 0 s s (omega arith)))
