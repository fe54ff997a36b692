use Rattle.std.proofs.Common.{rules, ◌≡◌, None, Some, sym, ◌∙◌}
use Rattle.pair_image.specs.Calls.{parts_of}
use Rattle.pair_image.proofs.Items.{left_more, left_none, ended}
use Rattle.pair_image.proofs.listed.ItemsIterator.next.Goals as goal

pub returns-in_err-item-clause-steps : goal.returns-in_err-item-clause-steps
returns-in_err-item-clause-steps g c =
    let none : c.get.result ≡ None = search rules in
    let gone = left_none (g.T.Listed.listed (parts_of c.args.self.now.image)) c.args.self.now.next (sym c.get.ensures.value ∙ none) in
    ended c.from_residual.result _ _ c.from_residual.ensures gone

pub returns-clause-steps : goal.returns-clause-steps
returns-clause-steps g c =
    let some : c.get.result ≡ Some c.in_ok-item.item = search rules in
    left_more (g.T.Listed.listed (parts_of c.args.self.now.image)) c.args.self.now.next c.in_ok-item.item (sym c.get.ensures.value ∙ some)
