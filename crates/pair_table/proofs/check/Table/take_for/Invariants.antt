use Rattle.std.proofs.Common.{◌≡◌, ◌≤◌, ◌++◌, drop, filter, length}
use Rattle.pair_table.specs.Steps.{accepts_code}
use Rattle.pair_table.proofs.check.Table.take_for.Given as goal

-- what is found so far and what is found in the entries still to come are all that match
abbrev pub invariant-loop-entry : goal.invariant-loop-entry
invariant-loop-entry l =
    (length l.own.items ≤ l.entry-index)
    × (l.own.items ++ filter (accepts_code l.code.0) (drop l.entry-index l.self.entries.now) ≡ filter (accepts_code l.code.0) l.self.entries.now)
