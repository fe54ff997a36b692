use Rattle.std.proofs.Common.{◌≡◌, ◌+◌, ◌*◌, length, Ok, Some, sym, ap, ◌∙◌, rules}
use Rattle.std.specs.Option.{option_map}
use Rattle.ternary.proofs.Verdicts.{passed_none}
use Rattle.automaton.specs.File.{StateRecord, said, parts_fault}
use Rattle.automaton.proofs.Records.{record_told, record_long, record_passed}
use Rattle.automaton.proofs.file.faults.check_record.Goals as goal

pub returns : goal.returns
returns c =
    let rest = c.args.rest.now in
    let is : c.read.result ≡ Some c.in_ok-record.record = search rules in
    let told = record_told rest (said c.in_ok-record.record) (ap (option_map said) (sym is) ∙ c.read.ensures) in
    let size = c.size.ensures ∙ (ap (λ (s : StateRecord). 5 + 4 * length s.ranges) told.1 ∙ record_long rest told.0) in
    ap Ok size ∙ record_passed c.args.states c.args.at rest told.0 (ap (parts_fault c.args.states c.args.at) (sym told.1) ∙ passed_none _ _ c.in_ok-check.ensures)
