use Rattle.std.proofs.Common.{sym, ◌∙◌}
use Rattle.gateway.specs.Gateways.{Posts}
use Rattle.gateway.proofs.Doing.{occupied_at, posted_at}
use Rattle.gateway.proofs.gateway.Gateway.post.Goals as goal

pub returns-then-is_none-clause-step : goal.returns-then-is_none-clause-step
returns-then-is_none-clause-step g c = Posts.unloaded c.if-is_none.ensures

pub returns-in_default-clause-step : goal.returns-in_default-clause-step
returns-in_default-clause-step g c = Posts.misnamed c.if-is_none.ensures c.in_default.ensures

pub returns-then-waits-clause-step : goal.returns-then-waits-clause-step
returns-then-waits-clause-step g c = occupied_at _ _ _ _ _ c.in-Some.ensures.0 c.if-is_none.ensures c.in-Some.ensures.1 (sym c.waits.ensures ∙ c.if-waits.true)

pub returns-clause-step : goal.returns-clause-step
returns-clause-step g c =
    let at = c.in-Some.ensures in
    posted_at _ _ _ _ _ _ at.0 c.posted.ensures c.if-is_none.ensures at.1 (sym c.waits.ensures ∙ c.if-waits.false)
