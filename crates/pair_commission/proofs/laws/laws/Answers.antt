use Rattle.pair_commission.proofs.Keeping.{lawful_of}
use Rattle.pair_commission.proofs.laws.laws.Goals as goal

pub returns : goal.returns
returns c = lawful_of
