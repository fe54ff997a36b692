use Rattle.card.specs.ListCards.{listed as one_listed}
use Rattle.pairs.specs.Cards.{listed}
use Rattle.measured.specs.PairFeeds.{PairFed}
use Rattle.measured.proofs.pair_feeds.feeds.Given as goal

-- the feeds so far have led here
abbrev pub invariant-loop-round : goal.invariant-loop-round
invariant-loop-round l =
    PairFed (listed l.two) (one_listed l.one) l.piece l.fn.scanner.position l.fn.marks l._round l.scanner.position l.marks l.sum
