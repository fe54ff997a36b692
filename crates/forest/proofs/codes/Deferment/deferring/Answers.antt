use Rattle.std.proofs.Common.{rules, ◌∙◌, ◌≡◌, take}
use Rattle.std.specs.List.{count_by}
use Rattle.std.proofs.iter.runs.Made.{chains}
use Rattle.forest.specs.Codes.{same}
use Rattle.forest.specs.Placing.{named}
use Rattle.forest.proofs.codes.Deferment.deferring.Goals as goal
use Rattle.forest.proofs.Sums.{counted}

pub returns-clause-value : goal.returns-clause-value
returns-clause-value c =
    let all : c.count.result ≡ count_by (λ p. same (named p.parent) (named c.args.parent)) (take c.args.end c.args.self.now.places.now) = search (rules, chains) in
    all ∙ counted c.args.self.now.places.now (named c.args.parent) c.args.end c.requires
