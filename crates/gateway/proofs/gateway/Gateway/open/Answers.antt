use Rattle.std.proofs.Common.{ap, is_some}
use Rattle.gateway.specs.Gateways.{Opens}
use Rattle.gateway.proofs.Doing.{opened_at}
use Rattle.gateway.proofs.gateway.Gateway.open.Goals as goal

pub returns-in_default-clause-step : goal.returns-in_default-clause-step
returns-in_default-clause-step g c = Opens.unloaded (ap is_some c.in_default.is)

pub returns-in_default-shut_place-clause-step : goal.returns-in_default-shut_place-clause-step
returns-in_default-shut_place-clause-step g c = Opens.misnamed (ap is_some c.in-Some.is) c.in_default-shut_place.ensures

pub returns-clause-step : goal.returns-clause-step
returns-clause-step g c =
    let shut = c.in-Some-shut_place.ensures in
    opened_at _ _ _ _ _ shut.0 c.opened.ensures c.in-Some.is shut.1
