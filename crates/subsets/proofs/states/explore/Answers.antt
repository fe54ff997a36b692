use Rattle.std.proofs.Common.{sym, subst, arith}
use Rattle.subsets.specs.States.{AreStates}
use Rattle.subsets.proofs.StateLemmas.{states-length, found-more, found-all, found-too-many}
use Rattle.subsets.proofs.states.explore.Goals as goal

pub loop-m-init : goal.loop-m-init
loop-m-init c = record { indexed = c.new-states.ensures.indexed; low = omega arith; are_found = λ rs small are. c.new-states.ensures.states rs }

pub returns-then-not-turn-clause-none : goal.returns-then-not-turn-clause-none
returns-then-not-turn-clause-none c = λ rs small are.
    found-too-many rs c.loop-m.m (omega (arith, c.loop-m-test.true, c.loop-m.invariant.indexed.few))
    (c.turn.ensures.full c.if-not-turn.true rs _ small are (c.loop-m.invariant.are_found rs small are))

pub loop-m-preserved : goal.loop-m-preserved
loop-m-preserved c = record {
  indexed = c.turn.ensures.indexed;
  low = omega (arith, c.loop-m-test.true, c.loop-m.invariant.indexed.few);
  are_found = λ rs small are.
      subst (AreStates c.turn.new.self rs) (sym (found-more rs c.loop-m.m))
      (c.turn.ensures.turned c.if-not-turn.false rs _ small are (c.loop-m.invariant.are_found rs small are));
}

pub returns-clause-some : goal.returns-clause-some
returns-clause-some c = λ rs small are.
    let is = c.loop-m.invariant.are_found rs small are in
    subst (AreStates c.loop-m.states rs)
    (found-all rs c.loop-m.m c.loop-m.invariant.low (omega (arith, states-length c.loop-m.states rs _ is, c.loop-m-test.false))) is
