use Rattle.std.proofs.Common.{◌≡◌, ◌≤◌, ◌++◌, drop, filter, length}
use Rattle.pair_table.specs.Steps.{accepts_byte}
use Rattle.pair_table.proofs.check.Table.take_at.Given as goal

-- what is found so far and what is found in the entries still to come are all that match
abbrev pub invariant-loop-entry : goal.invariant-loop-entry
invariant-loop-entry l =
    (length l.row.items ≤ l.entry-index)
    × (l.row.items ++ filter (accepts_byte l.byte) (drop l.entry-index l.self.entries.now) ≡ filter (accepts_byte l.byte) l.self.entries.now)
