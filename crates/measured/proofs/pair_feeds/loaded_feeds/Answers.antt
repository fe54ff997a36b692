use Rattle.std.proofs.Common.{rules}
use Rattle.automaton.specs.Limits.{handed}
use Rattle.card.specs.ListCards.{listed as one_listed, places as one_places}
use Rattle.pairs.specs.Cards.{places}
use Rattle.pair_scanner.specs.Scanners.{seen}
use Rattle.measured.proofs.PairLoaded.{told_refused, told_fed}
use Rattle.measured.proofs.pair_feeds.loaded_feeds.Goals as goal

pub returns-in-Ok : goal.returns-in-Ok
returns-in-Ok c =
    told_fed (handed c.args.automaton) c.args.two_image.now c.args.one_image.now c.args.piece.now c.args.count c.feeds.result
    _ (seen one_listed one_places c.load.new.two c.load.new.one c.load.new.self) _ _ _
    c.in-Ok.ensures.answer c.new-two.ensures.capacity c.new-one.ensures.capacity (search rules) c.feeds.ensures

pub returns-in-Err : goal.returns-in-Err
returns-in-Err c =
    told_refused (handed c.args.automaton) c.args.two_image.now c.args.one_image.now c.args.piece.now c.args.count
    (places c.new-two.result) (one_places c.new-one.result) c.number.result c.in-Err.why
    c.new-two.ensures.capacity c.new-one.ensures.capacity c.in-Err.ensures.answer c.number.ensures
