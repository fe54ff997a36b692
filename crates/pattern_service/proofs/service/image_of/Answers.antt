use Rattle.std.proofs.Common.{length, arith}
use Rattle.automaton.specs.Limits.{handed}
use Rattle.pattern_service.proofs.Declining.{only-four}
use Rattle.pattern_service.proofs.service.image_of.Goals as goal

pub returns-in-Err : goal.returns-in-Err
returns-in-Err c =
    let work = c.as_mut_slice.result.now in
    let out = c.as_mut_slice-2.result.now in
    only-four (handed c.args.automaton) work c.build.new.work (length out) c.in-Err.why c.in-Err.ensures.answer.1
    (omega (arith, c.as_mut_slice.ensures.len, c.in_ok-work.ensures.len))
    (omega (arith, c.as_mut_slice-2.ensures.len, c.in_ok-out.ensures.len))
    c.in-Err.ensures.suffices
