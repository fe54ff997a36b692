use Rattle.std.proofs.Common.{rules, ap, ◌∙◌, subst, length}
use Rattle.automaton.specs.Limits.{handed}
use Rattle.table.specs.Acceptance.{code_of}
use Rattle.image.specs.Format.{decode}
use Rattle.card.specs.ListCards.{listed, places}
use Rattle.gateway.specs.Gateways.{seen}
use Rattle.measured.specs.Turns.{AllWait, turned}
use Rattle.measured.proofs.Waiting.{acceptable, why_refused, told_refused}
use Rattle.measured.proofs.turns.loaded_turns.Goals as goal

pub returns-in-Ok : goal.returns-in-Ok
returns-in-Ok c =
    let code = code_of (decode c.args.image.now) c.args.automaton.start.0 in
    let wait = c.all_wait.ensures code c.in-Ok.ensures.start c.in-Ok.ensures.next in
    turned (acceptable c.in-Ok.ensures.step)
    (subst (λ es. AllWait es code (length c.args.buffer.now) (seen listed places c.all_wait.new.gateway)) c.in-Ok.ensures.listed wait) (search rules)
    c.turns.ensures

pub returns-in-Err : goal.returns-in-Err
returns-in-Err c =
    told_refused (handed c.args.automaton) c.args.image.now c.args.buffer.now c.args.quota c.args.count (places c.new-gateway.result.card) c.number.result c.in-Err.why
    (ap places c.new-gateway.ensures.card ∙ c.new.ensures.capacity) (why_refused c.in-Err.ensures.step) c.number.ensures
