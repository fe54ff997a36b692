use Rattle.std.proofs.Common.{rules, ◌≡◌, ◌+◌, max, map, ◌∙◌}
use Rattle.std.specs.List.{fold}
use Rattle.std.proofs.iter.runs.Made.{chains}
use Rattle.std.proofs.lemmas.List.Folds.{fold-map}
use Rattle.automaton.specs.Sound.{meant}
use Rattle.forest.specs.declared.plan.Placement.{Placement}
use Rattle.forest.specs.Deferment.{forest_of}
use Rattle.pair_builder.proofs.Heights.{height_of}
use Rattle.pair_builder.proofs.planned.Planned.height.Goals as goal

pub returns : goal.returns
returns c =
    let a = meant c.args.self.now.automaton in
    let places = c.placements.result.now in
    let folded : c.fold.result ≡ fold max 0 (map (λ (p : Placement). p.depth + 1) places) = search (rules, chains) in
    folded ∙ fold-map max (λ (p : Placement). p.depth + 1) 0 places ∙ height_of (forest_of a) a.states places (c.placements.ensures.placed a c.args.self.now.planned)
