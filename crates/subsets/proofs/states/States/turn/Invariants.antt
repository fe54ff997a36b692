use Rattle.std.proofs.Common.{◌≤◌, List, [], get_or}
use Rattle.patterns.specs.Language.{Regex}
use Rattle.patterns.specs.Patterns.{Flags, next, total}
use Rattle.patterns.specs.Subsets.{enter_row}
use Rattle.positions.specs.Patterns.{ArePositions}
use Rattle.subsets.specs.Index.{IsIndexed}
use Rattle.subsets.specs.States.{AreStates}
use Rattle.subsets.proofs.states.States.turn.Given as goal

-- the bytes below b have entered their sets
abbrev pub invariant-loop-b : goal.invariant-loop-b
invariant-loop-b l = record {
  indexed : IsIndexed l.self;
  entered : (rs : List Regex) (ss : List Flags) → total rs ≤ 256 → ArePositions l.p rs → AreStates l.initial.self rs ss → AreStates l.self rs (enter_row (next rs (get_or ss l.m [])) l.b ss);
}
