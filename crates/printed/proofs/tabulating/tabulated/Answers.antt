use Rattle.std.proofs.Common.{List, string_bytes, ap, ◌∙◌}
use Rattle.std.proofs.lemmas.Result.{IfOk-weaker}
use Rattle.printed.specs.Lines.{ended, small_answer}
use Rattle.printed.proofs.TabulatedFiles.{table_printed, refusal_printed}
use Rattle.printed.proofs.tabulating.tabulated.Goals as goal

pub returns-in-Ok : goal.returns-in-Ok
returns-in-Ok c =
    let file = c.args.file.now in
    IfOk-weaker c.image_text.result _ _ (λ s told. table_printed file (small_answer file) c.in-Ok.image c.in-Ok.ensures (string_bytes s) told) c.image_text.ensures

pub returns-in_ok-refusal_line-in-Err : goal.returns-in_ok-refusal_line-in-Err
returns-in_ok-refusal_line-in-Err c =
    let file = c.args.file.now in
    let line = c.in_ok-refusal_line-in-Err.ensures in
    IfOk-weaker c.ended_line.result _ _ (λ s told. refusal_printed file (small_answer file) c.in-Err.refusal c.in-Err.ensures (string_bytes s) (told ∙ ap (λ (bs : List _). ended bs) line)) c.ended_line.ensures
