use Rattle.std.proofs.Common.{ℕ, eqb, ap, ◌∙◌}
use Rattle.column.specs.ColumnCards.{entry_at}
use Rattle.column.proofs.Listing.{none_placed}
use Rattle.column.proofs.columns.ColumnCardCard.is_empty.Goals as goal

pub returns : goal.returns
returns c = ap (λ (n : ℕ). eqb n 0) c.count.ensures ∙ none_placed (entry_at c.args.self.now.words.now c.args.self.now.decisions.now) _
