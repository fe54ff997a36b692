use Rattle.std.proofs.Common.{rules, ◌≡◌, refl, Ok, Err}
use Rattle.ternary.proofs.Verdicts.{handed_on}
use Rattle.printed.specs.Lines.{small_answer}
use Rattle.printed.proofs.PlannedFiles.{held_is, small_told, small_refused}
use Rattle.printed.proofs.reading.SmallAutomaton.read.Goals as goal

pub returns-in_err-header : goal.returns-in_err-header
returns-in_err-header c =
    let file = c.args.file.now in
    let told : Err c.in_err-header.field-0.0 ≡ small_answer file = search rules in
    small_refused file (small_answer file) _ told _ c.from_residual.result (handed_on c.from_residual.result _ c.from_residual.ensures.1)

pub returns : goal.returns
returns c =
    let file = c.args.file.now in
    let h = c.in_ok-header.header in
    let read = c.in_ok-header.ensures in
    let told : Ok h ≡ small_answer file = search rules in
    small_told file h _ told _ (refl, held_is file h told _ c.read.new.successors _ c.read.new.classes read.successors read.classes, read.limits)
