use Rattle.std.proofs.Common.{◌≡◌, length}
use Rattle.std.specs.List.{find}
use Rattle.pairs.specs.Match.{matches}
use Rattle.pairs.proofs.pair.matching.find.Given as goal

-- none of the entries before the rest matches
abbrev pub invariant-loop-rest : goal.invariant-loop-rest
invariant-loop-rest l = find (λ e. matches e l.code.0 l.byte l.second) l.rest ≡ find (λ e. matches e l.code.0 l.byte l.second) l.entries

abbrev pub decreases-loop-rest : goal.decreases-loop-rest
decreases-loop-rest l = length l.rest
