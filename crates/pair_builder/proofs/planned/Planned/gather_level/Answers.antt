use Rattle.std.proofs.Common.{◌+◌, ◌<◌, List, ◌++◌, length, sym, ap, ◌∙◌, arith, length-append}
use Rattle.arrayvec.specs.ArrayVec.{ArrayVec}
use Rattle.automaton.specs.Sound.{meant}
use Rattle.forest.specs.declared.plan.Placement.{Placement}
use Rattle.forest.specs.Deferment.{forest_of}
use Rattle.forest.proofs.Plans.{placement_at}
use Rattle.pairs.specs.declared.pair.PairEntry.{PairEntry}
use Rattle.pair_builder.specs.Choosing.{choice_of}
use Rattle.pair_builder.specs.Unrolled.{pair_block, pair_level}
use Rattle.pair_builder.proofs.Pieces.{level_grows, level_with, level_without}
use Rattle.pair_builder.proofs.Collecting.{broken, further}
use Rattle.pair_builder.proofs.planned.Planned.gather_level.Goals as goal
use Rattle.pair_builder.proofs.planned.Planned.gather_level.Goals.{then-placement-depth+in_ok-gather_state, else-placement-depth}

pub returns-in_err-gather_state : goal.returns-in_err-gather_state
returns-in_err-gather_state c =
    let a = meant c.args.self.now.automaton in
    let p = choice_of a in
    let s = c.loop-s.s in
    let d = c.args.depth in
    let given = c.placements-placement-items in
    let known : s < a.states = omega (arith, c.loop-s-test.true, c.args.self.now.planned.0, ap length given.ensures.value) in
    let is = sym (ap (λ (q : Placement). q.depth) (placement_at (forest_of a) a.states s given.result.now _ (given.ensures.placed a c.args.self.now.planned) known)) in
    let so_far = ap length c.loop-s.invariant ∙ length-append c.args.gathered.now.items (pair_level a p d s) in
    let next = ap length (level_with a p d s (is ∙ c.if-placement-depth.true)) ∙ length-append (pair_level a p d s) (pair_block a p s) in
    let grows = level_grows a p d (s + 1) a.states (omega (arith, known)) in
    broken c.args.gathered.now.items c.loop-s.gathered.items c.gather_state.new.gathered.items c.gather_state.new.gathered.items (pair_block a p s) (pair_level a p d a.states) c.from_residual.result _
    c.from_residual.ensures.1 c.in_err-gather_state.ensures (omega (arith, so_far, next, grows))

pub loop-s-preserved : goal.loop-s-preserved
loop-s-preserved c =
    let a = meant c.args.self.now.automaton in
    let p = choice_of a in
    let s = c.loop-s.s in
    let d = c.args.depth in
    let given = c.placements-placement-items in
    let known : s < a.states = omega (arith, c.loop-s-test.true, c.args.self.now.planned.0, ap length given.ensures.value) in
    let is = sym (ap (λ (q : Placement). q.depth) (placement_at (forest_of a) a.states s given.result.now _ (given.ensures.placed a c.args.self.now.planned) known)) in
    elim c.if-placement-depth.branch [
      | then-placement-depth+in_ok-gather_state w ↦
          ap (λ (g : ArrayVec PairEntry). g.items) w.gathered-is
          ∙ further c.args.gathered.now.items c.loop-s.gathered.items w.gather_state.new.gathered.items (pair_level a p d s) (pair_block a p s) (pair_level a p d (s + 1)) c.loop-s.invariant w.in_ok-gather_state.ensures
          (level_with a p d s (is ∙ w.if-placement-depth.true))
      | else-placement-depth w ↦
          ap (λ (g : ArrayVec PairEntry). g.items) w.gathered-is
          ∙ (c.loop-s.invariant ∙ ap (λ (es : List PairEntry). c.args.gathered.now.items ++ es) (sym (level_without a p d s (λ e. w.if-placement-depth.false (sym is ∙ e)))))
    ]
