use Rattle.std.proofs.Common.{ap, ◌∙◌}
use Rattle.fields.specs.Fields.{written}
use Rattle.pair_image.specs.Format.{raw_bytes}
use Rattle.pair_image.proofs.raw.PairEntryWritable.put.Goals as goal

pub returns : goal.returns
returns c = c.put.ensures ∙ ap (written c.args.out.now c.args.at) (c.bytes.ensures ∙ ap raw_bytes c.from.ensures)
