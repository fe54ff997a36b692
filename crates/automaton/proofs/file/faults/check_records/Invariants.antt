use Rattle.std.proofs.Common.{◌≡◌, ◌+◌, ◌-◌, length}
use Rattle.automaton.specs.File.{records_fault}
use Rattle.automaton.proofs.file.faults.check_records.Given as goal

abbrev pub invariant-loop-state : goal.invariant-loop-state
invariant-loop-state l =
    (records_fault l.states l.states 9 l.records ≡ records_fault l.states (l.states - l._state) l.at l.rest)
    × (l.at + length l.rest ≡ 9 + length l.records)
