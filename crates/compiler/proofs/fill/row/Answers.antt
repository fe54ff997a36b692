use Rattle.std.proofs.Common.{◌≡◌, [], get_or, set, sym, ap, ◌∙◌, ⊎_elim, arith}
use Rattle.std.proofs.lemmas.Bool.{cases_eq}
use Rattle.std.proofs.lemmas.List.{get_or-set_same, get_or-set_other, length-set}
use Rattle.std.proofs.lemmas.List.FromFn.{fill_by_all}
use Rattle.patterns.specs.Patterns.{next}
use Rattle.patterns.specs.Subsets.{number, automaton_of, states_of}
use Rattle.automaton.specs.File.{state_no}
use Rattle.positions.specs.Tables.{set_at}
use Rattle.subsets.specs.States.{flags_of}
use Rattle.subsets.proofs.NextLemmas.{step-within, step-next}
use Rattle.subsets.proofs.StateLemmas.{state-at}
use Rattle.compiler.proofs.fill.row.Goals as goal

pub loop-b-preserved : goal.loop-b-preserved
loop-b-preserved c = record {
  room = length-set c.loop-b.row c.loop-b.b (state_no c.find-to.result) ∙ c.loop-b.invariant.room;
  done = λ rs small are is k below.
      let st = c.args.states.now in
      let s = c.args.s in
      let b = c.loop-b.b in
      let from = set_at st.sets s in
      let within = step-within c.args.p.now rs small are from c.reach-reached.result c.step.result (is.within s c.requires.inside) b c.loop-b-test.true c.reach-reached.ensures c.step.ensures in
      let new = step-next c.args.p.now rs small are from c.reach-reached.result c.step.result (is.within s c.requires.inside) b c.loop-b-test.true c.reach-reached.ensures c.step.ensures in
      let same : flags_of rs c.step.result ≡ next rs (get_or (states_of rs) s []) b = new ∙ ap (λ x. next rs x b) (sym (state-at st rs (states_of rs) is s c.requires.inside)) in
      let to : c.find-to.result ≡ number (next rs (get_or (states_of rs) s []) b) (states_of rs) = c.find-to.ensures.number rs (states_of rs) is within ∙ ap (λ x. number x (states_of rs)) same in
      ⊎_elim
      (λ e. ap (λ j. get_or (set c.loop-b.row b (state_no c.find-to.result)) j (state_no 0)) e
      ∙ get_or-set_same c.loop-b.row b (state_no c.find-to.result) (state_no 0) (omega (arith, c.loop-b.invariant.room, c.loop-b-test.true))
      ∙ ap state_no (to ∙ ap (λ j. number (next rs (get_or (states_of rs) s []) j) (states_of rs)) (sym e)))
      (λ ne. get_or-set_other c.loop-b.row b k (state_no c.find-to.result) (state_no 0) ne ∙ c.loop-b.invariant.done rs small are is k (omega arith))
      (cases_eq k b);
}

pub returns : goal.returns
returns c = λ rs small are is.
    fill_by_all (λ b. state_no ((automaton_of rs).next c.args.s b)) c.loop-b.row 256 (state_no 0) c.loop-b.invariant.room
    (λ k below. c.loop-b.invariant.done rs small are is k (omega (arith, c.loop-b.auto.b-end, c.loop-b-test.false)))
