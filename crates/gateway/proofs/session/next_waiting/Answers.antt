use Rattle.std.proofs.Common.{◌+◌, ◌%◌, sym, ap, ◌∙◌, arith}
use Rattle.gateway.proofs.Tables.{none_all_round}
use Rattle.gateway.proofs.session.next_waiting.Goals as goal

pub returns-then-waits : goal.returns-then-waits
returns-then-waits c = record {
  steps = c.loop-steps.steps;
  few = c.loop-steps-test.true;
  at = ap (λ n. (n + c.loop-steps.steps) % 64) c.from.ensures;
  waiting = sym c.waits.ensures ∙ c.if-waits.true;
  none_before = c.loop-steps.invariant;
}

pub returns : goal.returns
returns c = none_all_round c.args.sessions.now c.args.from (λ k below. c.loop-steps.invariant k (omega (arith, below, c.loop-steps.auto.steps-end)))
