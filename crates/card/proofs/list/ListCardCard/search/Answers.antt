use Rattle.std.proofs.Common.{◌-◌, List, ap, ◌∙◌, arith}
use Rattle.ternary.specs.declared.entry.Entry.{Entry}
use Rattle.ternary.specs.Match.{first}
use Rattle.card.proofs.Places.{take_count}
use Rattle.card.proofs.list.ListCardCard.search.Goals as goal

pub returns : goal.returns
returns c =
    c.first_match.ensures.value
    ∙ ap (λ (es : List Entry). first es c.args.code.0 c.args.byte) (take_count c.args.self.now.used (c.count.result - 0) c.args.self.now.buffer.now (omega (arith, c.count.ensures)))
