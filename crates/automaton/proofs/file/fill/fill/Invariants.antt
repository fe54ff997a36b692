use Rattle.std.proofs.Common.{◌≡◌, ◌-◌, take, drop}
use Rattle.std.specs.List.{flat_map}
use Rattle.fields.specs.Fields.{written}
use Rattle.automaton.specs.File.{row_of, records_in}
use Rattle.automaton.proofs.Records.{AllWhole, mark_of}
use Rattle.automaton.proofs.file.fill.fill.Given as goal

abbrev pub invariant-loop-state : goal.invariant-loop-state
invariant-loop-state l =
    AllWhole l.states (l.states - l.state) l.rest
    × (records_in (l.states - l.state) l.rest ≡ drop l.state (records_in l.states l.records))
    × (l.successors ≡ written l.initial.successors 0 (flat_map row_of (take l.state (records_in l.states l.records))))
    × (l.classes ≡ written l.initial.classes 0 (flat_map mark_of (take l.state (records_in l.states l.records))))
