use Rattle.std.proofs.Common.{refl}
use Rattle.ternary.proofs.BitLaws.{masked_agrees}
use Rattle.ternary.proofs.entry.matching.agrees.Goals as goal

pub returns : goal.returns
returns c = record { value = refl; agrees = masked_agrees c.args.value c.args.mask c.args.number }
