use Rattle.ternary.proofs.BitLaws.{masked_agrees}
use Rattle.pairs.proofs.pair.matching.agrees.Goals as goal

pub returns-clause-agrees : goal.returns-clause-agrees
returns-clause-agrees c = masked_agrees c.args.value c.args.mask c.args.byte
