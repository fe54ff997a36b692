use Rattle.std.proofs.Common.{◌≡◌, length}
use Rattle.std.specs.List.{find}
use Rattle.ternary.specs.Match.{matches}
use Rattle.ternary.proofs.entry.matching.find_by_fours.Given as goal

-- none of the entries before the rest matches
abbrev pub invariant-loop-rest : goal.invariant-loop-rest
invariant-loop-rest l = find (λ e. matches e l.code.0 l.byte) l.rest ≡ find (λ e. matches e l.code.0 l.byte) l.entries

abbrev pub decreases-loop-rest : goal.decreases-loop-rest
decreases-loop-rest l = length l.rest
