use Rattle.std.proofs.Common.{◌≡◌, List, map, length, drop, is_some, Ok, sym, ap, ◌∙◌, arith}
use Rattle.std.specs.List.{flat_map}
use Rattle.std.proofs.lemmas.List.{take_rest}
use Rattle.ternary.proofs.Verdicts.{passed_none}
use Rattle.fields.specs.Fields.{word, written}
use Rattle.automaton.specs.File.{StateRecord, records_fault, records_in, row_of, class_of}
use Rattle.automaton.proofs.Records.{accepted_parts, read_ok}
use Rattle.automaton.proofs.file.read_into.Goals as goal

pub fill-requires : goal.fill-requires
fill-requires c =
    let n = ap (λ h. h.states) c.read-header.ensures in
    let records = take_rest c.args.file.now 9 in
    record {
      sound = ap is_some (λ i. records_fault (n i) (n i) 9 (records i)) ∙ (accepted_parts c.args.file.now (passed_none _ _ c.in_ok-check_file.ensures)).records;
      rows = omega arith;
      marks = omega arith;
    }

pub returns : goal.returns
returns c =
    let file = c.args.file.now in
    let n = ap (λ h. h.states) c.read-header.ensures in
    let records = take_rest file 9 in
    let states : records_in c.read-header.result.states _ ≡ records_in (word file 5) (drop 9 file) = λ i. records_in (n i) (records i) in
    let ok = read_ok file (length c.args.successors.now) (length c.args.classes.now) (passed_none _ _ c.in_ok-check_file.ensures) (omega (arith, n)) (omega (arith, n)) in
    record {
      answer = ap Ok c.read-header.ensures ∙ sym ok;
      successors = c.fill.ensures.rows ∙ ap (λ (l : List StateRecord). written c.args.successors.now 0 (flat_map row_of l)) states;
      classes = c.fill.ensures.marks ∙ ap (λ (l : List StateRecord). written c.args.classes.now 0 (map class_of l)) states;
    }
