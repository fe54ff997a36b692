-- The bytes of a record that was made. Assumes nothing.
use Rattle.std.specs.Prelude.{ℕ, List, ◌++◌}
use Rattle.automaton_writer.specs.declared.record.Record.{Record}

-- the head, and the ranges behind it
abbrev pub bytes_of : Record → List ℕ
bytes_of r = r.head ++ r.ranges.items
