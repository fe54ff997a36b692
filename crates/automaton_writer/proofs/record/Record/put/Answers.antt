use Rattle.std.proofs.Common.{◌+◌, ap, ◌∙◌, arith}
use Rattle.fields.specs.Fields.{written}
use Rattle.fields.proofs.Writes.{written-written}
use Rattle.automaton_writer.proofs.record.Record.put.Goals as goal

pub returns : goal.returns
returns c =
    let r = c.args.self.now in
    let at = c.args.at in
    c.put-2.ensures
    ∙ ap (λ xs. written xs (at + 5) c.as_slice.result.now) c.put.ensures
    ∙ ap (λ xs. written (written c.args.out.now at r.head) (at + 5) xs) c.as_slice.ensures.value
    ∙ written-written c.args.out.now r.head r.ranges.items at (at + 5) (omega arith) (omega arith)
