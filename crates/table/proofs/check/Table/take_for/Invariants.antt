use Rattle.std.proofs.Common.{◌≡◌, ◌≤◌, ◌++◌, drop, length}
use Rattle.table.specs.Steps.{deciding}
use Rattle.table.proofs.check.Table.take_for.Given as goal

-- what is found so far and what decides among the entries still to come are all that decide
abbrev pub invariant-loop-entry : goal.invariant-loop-entry
invariant-loop-entry l =
    (length l.own.items ≤ l.entry-index)
    × (l.own.items ++ deciding l.code.0 (drop l.entry-index l.self.entries.now) ≡ deciding l.code.0 l.self.entries.now)
