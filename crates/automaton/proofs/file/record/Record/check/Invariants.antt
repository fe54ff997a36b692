use Rattle.std.proofs.Common.{◌≡◌, ◌+◌, ◌*◌, drop}
use Rattle.fields.specs.Fields.{each_fault}
use Rattle.automaton.specs.File.{range_fault, said}
use Rattle.automaton.proofs.file.record.Record.check.Given as goal

-- no range so far has a fault
abbrev pub invariant-loop-index : goal.invariant-loop-index
invariant-loop-index l =
    each_fault (range_fault l.states) 4 (l.at + 5) (said l.self).ranges
    ≡ each_fault (range_fault l.states) 4 (l.at + 5 + 4 * l.index) (drop l.index (said l.self).ranges)
