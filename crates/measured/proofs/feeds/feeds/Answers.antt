use Rattle.std.proofs.Common.{refl, ap, ◌∙◌, subst}
use Rattle.measured.specs.Feeds.{FeedTold, none, more}
use Rattle.measured.proofs.feeds.feeds.Goals as goal

pub loop-round-init : goal.loop-round-init
loop-round-init g c = (none, refl)

pub loop-round-preserved : goal.loop-round-preserved
loop-round-preserved g c =
    let before = c.loop-round.scanner in
    let after = c.feed-sum.new.scanner in
    let told = subst (λ es. FeedTold es c.args.piece.now before.position after.position c.loop-round.marks c.feed-sum.new.marks c.loop-round.sum c.feed-sum.result)
    (ap g.C.Card.entries c.loop-round.invariant.1) c.feed-sum.ensures.told in
    (more c.loop-round.invariant.0 told, c.feed-sum.ensures.card ∙ c.loop-round.invariant.1)
