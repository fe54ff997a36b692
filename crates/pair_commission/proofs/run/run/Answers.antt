use Rattle.std.proofs.Common.{true, refl, arith}
use Rattle.std.proofs.lemmas.Result.{err_from_is_err_and}
use Rattle.pair_scanner.specs.Scanners.{seen}
use Rattle.pair_commission.proofs.SoFar.{so_far_none, so_far_more, so_far_ran, so_far_broken}
use Rattle.pair_commission.proofs.run.run.Goals as goal

pub loop-call-init : goal.loop-call-init
loop-call-init g c = so_far_none _ _ (seen g.C.Card.entries g.C.Card.size c.args.two.now c.args.one.now c.new-scanner.result) c.new-scanner.ensures.position

pub loop-call-preserved : goal.loop-call-preserved
loop-call-preserved g c =
    so_far_more _ _ _ _ _ _ _ (seen g.C.Card.entries g.C.Card.size c.loop-call.two c.loop-call.one c.loop-call.scanner) (seen g.C.Card.entries g.C.Card.size c.answer_to.new.two c.answer_to.new.one c.answer_to.new.scanner)
    c.call-item.result c.in_ok-answer.answer c.loop-call-test.true c.call-item.is c.in_ok-push.ensures.items c.in_ok-answer.ensures c.loop-call.invariant

pub returns-in_err-answer : goal.returns-in_err-answer
returns-in_err-answer g c =
    let p = err_from_is_err_and c.from_residual.result c.from_residual.ensures.1 in
    so_far_broken _ _ _ _ _ _ _ _ c.from_residual.result p.0 refl p.1 c.loop-call.invariant

pub returns-in_err-push : goal.returns-in_err-push
returns-in_err-push g c =
    let p = err_from_is_err_and c.from_residual-in_err-push.result c.from_residual-in_err-push.ensures.1 in
    so_far_broken _ _ _ _ _ _ _ _ c.from_residual-in_err-push.result p.0 c.in_err-push.ensures.items p.1 c.loop-call.invariant

pub returns : goal.returns
returns g c = so_far_ran _ _ _ _ _ _ _ true (λ w. omega (arith, c.loop-call.auto.call-index-end)) c.loop-call.invariant
