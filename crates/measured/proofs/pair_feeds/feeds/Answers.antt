use Rattle.measured.specs.PairFeeds.{none, more}
use Rattle.measured.proofs.pair_feeds.feeds.Goals as goal

pub loop-round-init : goal.loop-round-init
loop-round-init c = none

pub loop-round-preserved : goal.loop-round-preserved
loop-round-preserved c = more c.loop-round.invariant c.feed-sum.ensures
