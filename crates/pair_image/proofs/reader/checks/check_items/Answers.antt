use Rattle.std.proofs.Common.{rules}
use Rattle.std.proofs.lemmas.List.FromFn.{length-map-range_with_len}
use Rattle.pair_image.specs.Format.{code_at}
use Rattle.pair_image.proofs.reader.checks.check_items.Goals as goal

pub returns : goal.returns
returns c =
    let long = length-map-range_with_len (code_at c.args.bytes.now) 0 c.args.header.states in
    search rules
