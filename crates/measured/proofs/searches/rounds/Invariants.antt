use Rattle.std.proofs.Common.{◌≡◌}
use Rattle.measured.specs.Searches.{search_rounds}
use Rattle.measured.proofs.searches.rounds.Given as goal

-- the sum is that of the rounds so far
abbrev pub invariant-loop-round : goal.invariant-loop-round
invariant-loop-round g l = l.sum ≡ search_rounds (g.C.Card.entries l.card) l.keys l._round
