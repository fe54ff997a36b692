use Rattle.std.proofs.Common.{◌≡◌, ◌+◌, ◌-◌, [], length, get_or, sym, ap, ◌∙◌, subst, arith}
use Rattle.patterns.specs.Patterns.{next}
use Rattle.patterns.specs.Subsets.{enter, enter_row}
use Rattle.positions.specs.Tables.{set_at}
use Rattle.subsets.specs.States.{AreStates, flags_of}
use Rattle.subsets.proofs.NextLemmas.{step-within, step-next}
use Rattle.subsets.proofs.StateLemmas.{states-length, state-at, row_zero, row_more, row-grows, turn-row}
use Rattle.subsets.proofs.states.States.turn.Goals as goal

pub loop-b-init : goal.loop-b-init
loop-b-init c = record {
  indexed = c.requires.indexed;
  entered = λ rs ss small are is. subst (AreStates c.args.self.now rs) (sym (row_zero (next rs (get_or ss c.args.m [])) ss)) is;
}

pub loop-b-preserved : goal.loop-b-preserved
loop-b-preserved c = record {
  indexed = c.enter.ensures.indexed;
  entered = λ rs ss small are is.
      let st = c.args.self.now in
      let m = c.args.m in
      let b = c.loop-b.b in
      let within = step-within c.args.p.now rs small are (set_at st.sets m) c.reach-reached.result c.step-set.result (is.within m c.requires.inside) b c.loop-b-test.true c.reach-reached.ensures c.step-set.ensures in
      let new = step-next c.args.p.now rs small are (set_at st.sets m) c.reach-reached.result c.step-set.result (is.within m c.requires.inside) b c.loop-b-test.true c.reach-reached.ensures c.step-set.ensures in
      let row = next rs (get_or ss m []) in
      let same : flags_of rs c.step-set.result ≡ next rs (get_or ss m []) b = new ∙ ap (λ s. next rs s b) (sym (state-at st rs ss is m c.requires.inside)) in
      subst (AreStates c.enter.new.self rs) (ap (enter (enter_row row b ss)) same ∙ sym (row_more row b ss))
      (c.enter.ensures.entered c.if-not-enter.false rs (enter_row row b ss) (c.loop-b.invariant.entered rs ss small are is) within);
}

pub returns-then-not-enter-clause-full : goal.returns-then-not-enter-clause-full
returns-then-not-enter-clause-full c = λ no rs ss small are is.
    let st = c.args.self.now in
    let m = c.args.m in
    let b = c.loop-b.b in
    let within = step-within c.args.p.now rs small are (set_at st.sets m) c.reach-reached.result c.step-set.result (is.within m c.requires.inside) b c.loop-b-test.true c.reach-reached.ensures c.step-set.ensures in
    let new = step-next c.args.p.now rs small are (set_at st.sets m) c.reach-reached.result c.step-set.result (is.within m c.requires.inside) b c.loop-b-test.true c.reach-reached.ensures c.step-set.ensures in
    let row = next rs (get_or ss m []) in
    let same : flags_of rs c.step-set.result ≡ next rs (get_or ss m []) b = new ∙ ap (λ s. next rs s b) (sym (state-at st rs ss is m c.requires.inside)) in
    let over = c.enter.ensures.full c.if-not-enter.true rs (enter_row row b ss) (c.loop-b.invariant.entered rs ss small are is) within in
    let end : b + 1 + (256 - (b + 1)) ≡ 256 = omega (arith, c.loop-b-test.true) in
    omega (
      arith,
      over,
      ap (λ s. length (enter (enter_row row b ss) s)) same,
      ap length (row_more row b ss),
      row-grows row (b + 1) (256 - (b + 1)) ss,
      ap (λ n. length (enter_row row n ss)) end,
      ap length (turn-row rs ss m (omega (arith, states-length st rs ss is, c.requires.inside))),
    )

pub returns-clause-turned : goal.returns-clause-turned
returns-clause-turned c = λ yes rs ss small are is.
    let end : c.loop-b.b ≡ 256 = omega (arith, c.loop-b.auto.b-end, c.loop-b-test.false) in
    subst (AreStates c.loop-b.self rs)
    (ap (λ n. enter_row (next rs (get_or ss c.args.m [])) n ss) end ∙ sym (turn-row rs ss c.args.m (omega (arith, states-length c.args.self.now rs ss is, c.requires.inside))))
    (c.loop-b.invariant.entered rs ss small are is)
