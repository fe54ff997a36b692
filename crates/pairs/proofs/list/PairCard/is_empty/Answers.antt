use Rattle.pairs.proofs.Places.{none_in_use}
use Rattle.pairs.proofs.list.PairCard.is_empty.Goals as goal

pub returns : goal.returns
returns c = none_in_use c.args.self.now.used c.count.result c.args.self.now.buffer.now c.count.ensures
