use Rattle.std.proofs.Common.{refl, arith}
use Rattle.std.proofs.lemmas.Bool.{false≢true}
use Rattle.scanner.proofs.Simulation.{bytes_from_typed}
use Rattle.gateway.specs.Gateways.{seen, Turns, unfit, rests}
use Rattle.gateway.proofs.Doing.{served_at, outside_at}
use Rattle.gateway.proofs.gateway.Gateway.turn.Goals as goal

pub returns-then-is_none-clause-answer : goal.returns-then-is_none-clause-answer
returns-then-is_none-clause-answer g c = Turns.unloaded c.if-is_none.ensures

pub returns-then-is_none-clause-step : goal.returns-then-is_none-clause-step
returns-then-is_none-clause-step g c = record { before = c.args.marks.now; after = c.args.marks.now; count = refl; turns = Turns.unloaded c.if-is_none.ensures }

pub returns-then-not-is_good_quota-clause-answer : goal.returns-then-not-is_good_quota-clause-answer
returns-then-not-is_good_quota-clause-answer g c = unfit c.if-is_none.ensures (λ h. false≢true (c.if-not-is_good_quota.ensures.1 h))

pub returns-then-not-is_good_quota-clause-step : goal.returns-then-not-is_good_quota-clause-step
returns-then-not-is_good_quota-clause-step g c = record { before = c.args.marks.now; after = c.args.marks.now; count = refl; turns = unfit c.if-is_none.ensures (λ h. false≢true (c.if-not-is_good_quota.ensures.1 h)) }

pub returns-in_default-clause-answer : goal.returns-in_default-clause-answer
returns-in_default-clause-answer g c = rests c.if-is_none.ensures (c.if-not-is_good_quota.ensures.0 refl) c.in_default.ensures

pub returns-in_default-clause-step : goal.returns-in_default-clause-step
returns-in_default-clause-step g c =
    record { before = c.args.marks.now; after = c.args.marks.now; count = refl; turns = rests c.if-is_none.ensures (c.if-not-is_good_quota.ensures.0 refl) c.in_default.ensures }

pub returns-then-not-lies_within-clause-answer : goal.returns-then-not-lies_within-clause-answer
returns-then-not-lies_within-clause-answer g c =
    outside_at _ c.args.buffer.now c.args.marks.now c.args.quota _ _ c.from-number.ensures c.if-is_none.ensures (c.if-not-is_good_quota.ensures.0 refl) c.in-Some.ensures (λ h. false≢true (c.if-not-lies_within.ensures.1 h))

pub returns-then-not-lies_within-clause-step : goal.returns-then-not-lies_within-clause-step
returns-then-not-lies_within-clause-step g c = record {
  before = c.args.marks.now;
  after = c.args.marks.now;
  count = refl;
  turns = outside_at _ c.args.buffer.now c.args.marks.now c.args.quota _ _ c.from-number.ensures c.if-is_none.ensures (c.if-not-is_good_quota.ensures.0 refl) c.in-Some.ensures (λ h. false≢true (c.if-not-lies_within.ensures.1 h));
}

pub returns-clause-answer : goal.returns-clause-answer
returns-clause-answer g c =
    served_at (seen g.C.Card.entries g.C.Card.size c.args.self.now) c.args.buffer.now c.args.marks.now c.serve-walk.new.marks c.args.quota c.in-Some.coach c.from-number.result c.serve-walk.new.self c.serve-walk.result
    c.from-number.ensures c.serve-walk.ensures.session c.if-is_none.ensures (c.if-not-is_good_quota.ensures.0 refl) c.in-Some.ensures (c.if-not-lies_within.ensures.0 refl)
    (bytes_from_typed _ (λ i. omega (arith, c.type_inv.buffer i))) c.serve-walk.ensures.outcome

pub returns-clause-step : goal.returns-clause-step
returns-clause-step g c = record {
  before = c.args.marks.now;
  after = c.serve-walk.new.marks;
  count = refl;
  turns =
      served_at (seen g.C.Card.entries g.C.Card.size c.args.self.now) c.args.buffer.now c.args.marks.now c.serve-walk.new.marks c.args.quota c.in-Some.coach c.from-number.result c.serve-walk.new.self c.serve-walk.result
      c.from-number.ensures c.serve-walk.ensures.session c.if-is_none.ensures (c.if-not-is_good_quota.ensures.0 refl) c.in-Some.ensures (c.if-not-lies_within.ensures.0 refl)
      (bytes_from_typed _ (λ i. omega (arith, c.type_inv.buffer i))) c.serve-walk.ensures.outcome;
}
