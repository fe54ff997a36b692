use Rattle.std.proofs.Common.{◌≡◌, ℕ, ◌-◌, ◌++◌, map, sym, ap, ◌∙◌, arith}
use Rattle.std.proofs.lemmas.Grind.{common_steps}
use Rattle.std.proofs.lemmas.List.{append-nil}
use Rattle.automaton.specs.Sound.{meant}
use Rattle.forest.specs.Deferment.{forest_of}
use Rattle.forest.proofs.Deferred.{forest_stands}
use Rattle.builder.specs.Gathering.{lists_of, level_over}
use Rattle.builder.specs.Lists.{byte_word, table_over}
use Rattle.builder.proofs.Blocks.{levels_over, levels_next}
use Rattle.builder.proofs.Collecting.{lower, too_long}
use Rattle.builder.proofs.planned.Planned.gather.Goals as goal

pub loop-depth-init : goal.loop-depth-init
loop-depth-init c = grind (arith, common_steps, (forest_stands (meant c.args.self.now.automaton)).states)

pub loop-depth-preserved : goal.loop-depth-preserved
loop-depth-preserved c =
    let a = meant c.args.self.now.automaton in
    let lists = lists_of a in
    let d = c.loop-depth.depth in
    let k = d - 1 in
    lower c.loop-depth.gathered.items c.gather_level.new.gathered.items (level_over a lists k a.states) (levels_over a lists k) (levels_over a lists d) (table_over a lists)
    c.loop-depth.invariant c.in_ok-gather_level.ensures (levels_next a (forest_of a) (λ s. map byte_word (lists s)) d k a.states (omega arith) (forest_stands a).states)

pub returns-in_err-gather_level : goal.returns-in_err-gather_level
returns-in_err-gather_level c =
    let a = meant c.args.self.now.automaton in
    let lists = lists_of a in
    let d = c.loop-depth.depth in
    let k = d - 1 in
    too_long _ c.loop-depth.gathered.items c.gather_level.new.gathered.items (level_over a lists k a.states) (levels_over a lists k) (levels_over a lists d) (table_over a lists) c.from_residual.result _
    c.from_residual.ensures.1 c.in_err-gather_level.ensures c.loop-depth.invariant (levels_next a (forest_of a) (λ s. map byte_word (lists s)) d k a.states (omega arith) (forest_stands a).states)

pub returns : goal.returns
returns c =
    let a = meant c.args.self.now.automaton in
    let last : c.loop-depth.depth ≡ 0 = omega arith in
    sym (append-nil c.loop-depth.gathered.items) ∙ (ap (λ (n : ℕ). c.loop-depth.gathered.items ++ levels_over a (lists_of a) n) (sym last) ∙ c.loop-depth.invariant)
