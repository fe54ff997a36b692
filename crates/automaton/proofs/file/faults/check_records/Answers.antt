use Rattle.std.proofs.Common.{ℕ, ◌+◌, ◌-◌, length, is_some, sym, refl, ap, ◌∙◌, arith, length-drop}
use Rattle.std.proofs.lemmas.List.{take_rest}
use Rattle.ternary.proofs.Verdicts.{passed_with, refused_with, stopped_at}
use Rattle.automaton.specs.File.{record_fault, records_fault, record_size}
use Rattle.automaton.proofs.Records.{whole, records_found, records_more}
use Rattle.automaton.proofs.file.faults.check_records.Goals as goal

pub returns-in_err-size : goal.returns-in_err-size
returns-in_err-size c =
    let n = c.args.states in
    let k = c.loop-state._state in
    let rest = c.loop-state.rest.now in
    let fault = record_fault n c.loop-state.at rest in
    stopped_at c.from_residual.result _ _ _ fault c.from_residual.ensures.1 (refused_with fault _ (record_size rest) c.in_err-size.ensures) c.loop-state.invariant.0
    (records_found n (n - k) (n - (k + 1)) c.loop-state.at rest (omega arith) fault refl)

pub loop-state-preserved : goal.loop-state-preserved
loop-state-preserved c =
    let n = c.args.states in
    let k = c.loop-state._state in
    let rest = c.loop-state.rest.now in
    let size : ℕ = c.in_ok-size.size in
    let left = take_rest rest size in
    let passed = passed_with (record_fault n c.loop-state.at rest) size (record_size rest) c.in_ok-size.ensures in
    let good = whole n c.loop-state.at rest (ap is_some passed.0) in (
      c.loop-state.invariant.0
          ∙ (records_more n (n - k) (n - (k + 1)) c.loop-state.at rest (omega arith)
          (record_fault n c.loop-state.at rest) refl size passed.1 (ap is_some passed.0)
          ∙ ap (records_fault n (n - (k + 1)) (c.loop-state.at + size)) (sym left)),
      omega (arith, ap length left, length-drop size rest, good.within, passed.1, c.loop-state.invariant.1),
    )
