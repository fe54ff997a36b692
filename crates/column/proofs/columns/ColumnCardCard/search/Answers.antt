use Rattle.std.proofs.Common.{ℕ, sym, ap, ◌∙◌, arith}
use Rattle.ternary.specs.Match.{first}
use Rattle.column.specs.ColumnCards.{entries_of}
use Rattle.column.proofs.Listing.{none_first, some_first}
use Rattle.column.proofs.columns.ColumnCardCard.search.Goals as goal

pub returns : goal.returns
returns c =
    let ws = c.args.self.now.words.now in
    let ds = c.args.self.now.decisions.now in
    let found = c.in_ok-index.ensures in
    sym (some_first ws ds c.count.result c.args.code.0 c.args.byte (omega arith) (omega arith) c.in_ok-index.index found.0 found.1 found.2)
    ∙ ap (λ (n : ℕ). first (entries_of ws ds n) c.args.code.0 c.args.byte) c.count.ensures

pub returns-in_err-index : goal.returns-in_err-index
returns-in_err-index c =
    let ws = c.args.self.now.words.now in
    let ds = c.args.self.now.decisions.now in
    c.from_residual.ensures
    ∙ (sym (none_first ws ds c.count.result c.args.code.0 c.args.byte (omega arith) (omega arith) c.in_err-index.ensures)
    ∙ ap (λ (n : ℕ). first (entries_of ws ds n) c.args.code.0 c.args.byte) c.count.ensures)
