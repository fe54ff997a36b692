use Rattle.std.proofs.Common.{rules, ◌≡◌, max, get_or, sym, ◌∙◌}
use Rattle.std.specs.List.{fold}
use Rattle.std.proofs.iter.runs.Made.{chains}
use Rattle.forest.specs.Held.{held}
use Rattle.forest.proofs.Counts.{most_same_below}
use Rattle.forest.proofs.Numbered.{width_longest}
use Rattle.forest.proofs.Sums.{most_fold}
use Rattle.forest.proofs.codes.Deferment.width.Goals as goal

pub returns : goal.returns
returns c =
    let self = c.args.self.now in
    let f = held self in
    let lens = c.args.lens.now in
    let folded : c.fold.result ≡ fold max 0 lens = search (rules, chains) in
    folded ∙ most_fold lens f.states c.requires.0 ∙ most_same_below (λ k. get_or lens k 0) f.len f.states c.requires.1
    ∙ sym (width_longest f.states f.parent f.depth self.rooted)
