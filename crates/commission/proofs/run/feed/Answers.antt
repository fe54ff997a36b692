use Rattle.std.proofs.Common.{take, ap, ◌∙◌}
use Rattle.std.proofs.lemmas.List.{take_at}
use Rattle.commission.proofs.Answering.{fed_call}
use Rattle.commission.proofs.run.feed.Goals as goal

pub returns-in-Ok : goal.returns-in-Ok
returns-in-Ok g c =
    let made = c.in_ok-marks.ensures.len in
    let whole = take_at c.feed.new.marks _ _ (c.feed.auto.marks ∙ c.as_mut_slice.ensures.len) in
    record {
      capacity = ap g.C.Card.size c.in-Ok.ensures.card;
      keeps = fed_call _ _ _ _ _ _ c.in-Ok.progress _ _ c.as_slice.ensures.value (c.as_mut_slice.ensures.len ∙ made)
          (c.truncate.ensures.items ∙ ap (take c.in-Ok.progress.marks) whole) c.in-Ok.ensures.keeps;
    }
