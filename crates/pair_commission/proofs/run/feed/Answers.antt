use Rattle.std.proofs.Common.{◌<◌, map, take, refl, ap, ◌∙◌, arith}
use Rattle.std.proofs.lemmas.List.{take_at}
use Rattle.ternary.specs.Marks.{marked}
use Rattle.std.proofs.ByRecursion.{All-from_get_or}
use Rattle.pair_scanner.specs.Scanners.{seen}
use Rattle.pair_commission.specs.Journeys.{walked}
use Rattle.pair_commission.proofs.Answering.{fed_step}
use Rattle.pair_commission.proofs.run.feed.Goals as goal

pub returns-in-Ok : goal.returns-in-Ok
returns-in-Ok g c =
    let s = seen g.C.Card.entries g.C.Card.size c.args.two.now c.args.one.now c.args.scanner.now in
    let whole = take_at c.feed.new.marks _ _ (c.feed.auto.marks ∙ c.as_mut_slice.ensures.len) in
    fed_step s c.args.piece.now.items _ c.args.slots _ c.feed.new.marks _ c.feed.new.self.position _
    (All-from_get_or (λ b. b < 256) c.args.piece.now.items 0 (λ i h. omega (arith, c.type_inv.piece i 0 h))) c.as_slice.ensures.value (c.as_mut_slice.ensures.len ∙ c.in_ok-marks.ensures.len)
    c.in-Ok.ensures.answer
    (ap (λ ms. walked c.in-Ok.progress (map marked ms)) (c.truncate.ensures.items ∙ ap (take c.in-Ok.progress.marks) whole))

pub returns-in-Err : goal.returns-in-Err
returns-in-Err g c =
    let s = seen g.C.Card.entries g.C.Card.size c.args.two.now c.args.one.now c.args.scanner.now in
    fed_step s c.args.piece.now.items _ c.args.slots _ c.feed.new.marks _ c.feed.new.self.position _
    (All-from_get_or (λ b. b < 256) c.args.piece.now.items 0 (λ i h. omega (arith, c.type_inv.piece i 0 h))) c.as_slice.ensures.value (c.as_mut_slice.ensures.len ∙ c.in_ok-marks.ensures.len)
    c.in-Err.ensures.answer refl
