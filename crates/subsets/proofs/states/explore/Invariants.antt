use Rattle.std.proofs.Common.{◌-◌, ◌≤◌, List}
use Rattle.patterns.specs.Language.{Regex}
use Rattle.patterns.specs.Patterns.{total}
use Rattle.patterns.specs.Subsets.{found}
use Rattle.positions.specs.Patterns.{ArePositions}
use Rattle.subsets.specs.Index.{IsIndexed}
use Rattle.subsets.specs.States.{AreStates}
use Rattle.subsets.proofs.states.explore.Given as goal

-- the first m states have had their turns
abbrev pub invariant-loop-m : goal.invariant-loop-m
invariant-loop-m l = record {
  indexed : IsIndexed l.states;
  low : l.m ≤ 512;
  are_found : (rs : List Regex) → total rs ≤ 256 → ArePositions l.p rs → AreStates l.states rs (found rs l.m);
}

abbrev pub decreases-loop-m : goal.decreases-loop-m
decreases-loop-m l = 512 - l.m
