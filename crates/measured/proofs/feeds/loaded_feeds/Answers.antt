use Rattle.std.proofs.Common.{rules, ap, ◌∙◌}
use Rattle.automaton.specs.Limits.{handed}
use Rattle.card.specs.ListCards.{listed, places}
use Rattle.scanner.specs.Scanners.{seen}
use Rattle.measured.proofs.Loaded.{told_refused, told_fed}
use Rattle.measured.proofs.feeds.loaded_feeds.Goals as goal

pub returns-in-Ok : goal.returns-in-Ok
returns-in-Ok c =
    told_fed (handed c.args.automaton) c.args.image.now c.args.piece.now c.args.count c.feeds.result _ (seen listed places c.load.new.self) _ _ _
    c.in-Ok.ensures.answer (search rules) c.feeds.ensures.told

pub returns-in-Err : goal.returns-in-Err
returns-in-Err c =
    told_refused (handed c.args.automaton) c.args.image.now c.args.piece.now c.args.count (places c.new-scanner.result.card) c.number.result c.in-Err.why
    (ap places c.new-scanner.ensures.card ∙ c.new.ensures.capacity) c.in-Err.ensures.answer c.number.ensures
