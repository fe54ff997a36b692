use Rattle.std.proofs.Common.{ℕ, List, string_bytes, ap, ◌∙◌}
use Rattle.printed.specs.Lines.{ended, small_answer, file_text}
use Rattle.printed.proofs.PlannedFiles.{refused_text}
use Rattle.printed.proofs.Spelling.{made_as}
use Rattle.printed.proofs.plans.file_text.Goals as goal

pub returns-in_ok-refusal_line-in-Err : goal.returns-in_ok-refusal_line-in-Err
returns-in_ok-refusal_line-in-Err c =
    let file = c.args.file.now in
    let line = c.in_ok-refusal_line-in-Err.field-0 in
    made_as string_bytes c.ended_line.result (ended (string_bytes line)) (file_text file) c.ended_line.ensures
    (ap (λ (bs : List ℕ). ended bs) c.in_ok-refusal_line-in-Err.ensures ∙ refused_text file (small_answer file) c.in-Err.refusal c.in-Err.ensures)
