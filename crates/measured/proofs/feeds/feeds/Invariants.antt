use Rattle.std.proofs.Common.{◌≡◌}
use Rattle.measured.specs.Feeds.{Fed}
use Rattle.measured.proofs.feeds.feeds.Given as goal

-- the feeds so far have led here, and the card is as it was
abbrev pub invariant-loop-round : goal.invariant-loop-round
invariant-loop-round g l =
    Fed (g.C.Card.entries l.fn.scanner.card) l.piece l.fn.scanner.position l.fn.marks l._round l.scanner.position l.marks l.sum
    × (l.scanner.card ≡ l.fn.scanner.card)
