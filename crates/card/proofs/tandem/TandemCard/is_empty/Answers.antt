use Rattle.std.proofs.Common.{◌&&◌, sym, ap, ◌∙◌}
use Rattle.card.specs.Cards.{no_entry}
use Rattle.card.proofs.InTandem.{none_in_both}
use Rattle.card.proofs.tandem.TandemCard.is_empty.Goals as goal

pub returns-then-is_empty : goal.returns-then-is_empty
returns-then-is_empty g c =
    let second = g.B.Card.entries c.args.self.now.second in
    c.is_empty-then-is_empty.ensures
    ∙ sym (none_in_both (g.A.Card.entries c.args.self.now.first) second ∙ ap (λ t. t && no_entry second) (sym c.if-is_empty.ensures))

pub returns-else-is_empty : goal.returns-else-is_empty
returns-else-is_empty g c =
    let second = g.B.Card.entries c.args.self.now.second in
    c.if-is_empty.false
    ∙ sym (none_in_both (g.A.Card.entries c.args.self.now.first) second ∙ ap (λ t. t && no_entry second) (sym c.if-is_empty.ensures))
