use Rattle.std.proofs.Common.{◌≡◌, ℕ, ◌-◌, ◌++◌, sym, ap, ◌∙◌, arith}
use Rattle.std.proofs.lemmas.Grind.{common_steps}
use Rattle.std.proofs.lemmas.List.{append-nil}
use Rattle.automaton.specs.Sound.{meant}
use Rattle.forest.proofs.Deferred.{forest_stands}
use Rattle.pair_builder.specs.Choosing.{choice_of}
use Rattle.pair_builder.specs.Unrolled.{pair_level, pair_levels, pair_table}
use Rattle.pair_builder.proofs.Pieces.{levels_next}
use Rattle.pair_builder.proofs.Collecting.{lower, too_long}
use Rattle.pair_builder.proofs.planned.Planned.entries.Goals as goal

pub loop-depth-init : goal.loop-depth-init
loop-depth-init c = grind (arith, common_steps, (forest_stands (meant c.args.self.now.automaton)).states)

pub loop-depth-preserved : goal.loop-depth-preserved
loop-depth-preserved c =
    let a = meant c.args.self.now.automaton in
    let p = choice_of a in
    let d = c.loop-depth.depth in
    let k = d - 1 in
    lower c.loop-depth.gathered.items c.gather_level.new.gathered.items (pair_level a p k a.states) (pair_levels a p k) (pair_levels a p d) (pair_table a p)
    c.loop-depth.invariant c.in_ok-gather_level.ensures (levels_next a p d k a.states (omega arith) (forest_stands a).states)

pub returns-in_err-gather_level : goal.returns-in_err-gather_level
returns-in_err-gather_level c =
    let a = meant c.args.self.now.automaton in
    let p = choice_of a in
    let d = c.loop-depth.depth in
    let k = d - 1 in
    too_long _ c.loop-depth.gathered.items c.gather_level.new.gathered.items (pair_level a p k a.states) (pair_levels a p k) (pair_levels a p d) (pair_table a p) c.from_residual.result _
    c.from_residual.ensures.1 c.in_err-gather_level.ensures c.loop-depth.invariant (levels_next a p d k a.states (omega arith) (forest_stands a).states)

pub returns : goal.returns
returns c =
    let a = meant c.args.self.now.automaton in
    let last : c.loop-depth.depth ≡ 0 = omega arith in
    sym (append-nil c.loop-depth.gathered.items) ∙ (ap (λ (n : ℕ). c.loop-depth.gathered.items ++ pair_levels a (choice_of a) n) (sym last) ∙ c.loop-depth.invariant)
