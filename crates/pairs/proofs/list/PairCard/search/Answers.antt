use Rattle.std.proofs.Common.{◌-◌, List, ap, ◌∙◌, arith}
use Rattle.pairs.specs.declared.pair.PairEntry.{PairEntry}
use Rattle.pairs.specs.Match.{first}
use Rattle.pairs.proofs.Places.{take_count}
use Rattle.pairs.proofs.list.PairCard.search.Goals as goal

pub returns : goal.returns
returns c =
    c.first_pair.ensures.value
    ∙ ap (λ (es : List PairEntry). first es c.args.code.0 c.args.byte c.args.second) (take_count c.args.self.now.used (c.count.result - 0) c.args.self.now.buffer.now (omega (arith, c.count.ensures)))
