use Rattle.std.proofs.lemmas.List.{length-set}
use Rattle.pairs.proofs.Places.{added_behind}
use Rattle.pairs.proofs.list.PairCard.append.Goals as goal

pub returns : goal.returns
returns c = record {
  cases = added_behind c.args.e c.args.self.now.buffer.now c.args.self.now.used c.count-count.result c.count-count.ensures c.if-count-self.false;
  same_size = simp length-set;
}
