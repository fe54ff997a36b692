use Rattle.gateway.proofs.Slots.{slots_stay}
use Rattle.gateway.proofs.session.Session.serve.Goals as goal

pub returns-clause-slots : goal.returns-clause-slots
returns-clause-slots g c = slots_stay _ _ _ _ _ _ c.walk-answer.ensures.outcome
