use Rattle.card.proofs.Places.{none_in_use}
use Rattle.card.proofs.list.ListCardCard.is_empty.Goals as goal

pub returns : goal.returns
returns c = none_in_use c.args.self.now.used c.count.result c.args.self.now.buffer.now c.count.ensures
