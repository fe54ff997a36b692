use Rattle.std.proofs.Common.{refl, ap, ◌∙◌, Err}
use Rattle.std.proofs.lemmas.Result.{err_from_is_err_and}
use Rattle.automaton.specs.Limits.{handed}
use Rattle.gateway.specs.Gateways.{seen}
use Rattle.gateway.proofs.Doing.{loaded_at, refused_at}
use Rattle.gateway.proofs.gateway.Gateway.load.Goals as goal

pub returns-in_err-start-clause-step : goal.returns-in_err-start-clause-step
returns-in_err-start-clause-step g c =
    let p = err_from_is_err_and c.from_residual.result c.from_residual.ensures.1 in
    refused_at g.C.Card.entries g.C.Card.size (handed c.args.automaton) c.args.image.now c.args.self.now c.load_card.new.card c.from_residual.result _
    (c.in_err-start.ensures.refused refl) (p.1 ∙ ap Err p.2) c.in_err-start.ensures.answer

pub returns-clause-step : goal.returns-clause-step
returns-clause-step g c =
    loaded_at (seen g.C.Card.entries g.C.Card.size c.args.self.now) (handed c.args.automaton) c.args.image.now _ _ _ _ c.in_ok-start.ensures.answer c.all_closed-self.ensures
