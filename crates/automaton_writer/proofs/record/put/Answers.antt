use Rattle.std.proofs.Common.{◌+◌, ◌-◌, length, arith}
use Rattle.fields.proofs.Writes.{put_mid-written}
use Rattle.automaton_writer.proofs.record.put.Goals as goal

pub returns : goal.returns
returns c =
    put_mid-written c.args.out.now _ c.args.field.now c.args.at
    (c.args.at + length c.args.field.now - c.args.at) c.copy_from_slice.ensures.after (omega arith)
