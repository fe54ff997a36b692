use Rattle.gateway.specs.Gateways.{Closes}
use Rattle.gateway.proofs.Doing.{closed_at}
use Rattle.gateway.proofs.gateway.Gateway.close.Goals as goal

pub returns-then-is_none-clause-step : goal.returns-then-is_none-clause-step
returns-then-is_none-clause-step g c = Closes.unloaded c.if-is_none.ensures

pub returns-in_default-clause-step : goal.returns-in_default-clause-step
returns-in_default-clause-step g c = Closes.misnamed c.if-is_none.ensures c.in_default.ensures

pub returns-clause-step : goal.returns-clause-step
returns-clause-step g c =
    let at = c.in-Some.ensures in
    closed_at _ _ _ _ at.0 c.closed.ensures c.if-is_none.ensures at.1
