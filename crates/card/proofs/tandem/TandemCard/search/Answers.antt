use Rattle.std.proofs.Common.{rules, ◌≡◌, ap, ◌∙◌}
use Rattle.std.specs.Option.{option_or}
use Rattle.ternary.specs.Match.{first}
use Rattle.card.proofs.InTandem.{first_or}
use Rattle.card.proofs.tandem.TandemCard.search.Goals as goal

pub returns : goal.returns
returns g c =
    let es = g.A.Card.entries c.args.self.now.first in
    let fs = g.B.Card.entries c.args.self.now.second in
    let told : c.or_else.result ≡ option_or c.search-found.result (first fs c.args.code.0 c.args.byte) = search rules in
    told ∙ (ap (λ r. option_or r (first fs c.args.code.0 c.args.byte)) c.search-found.ensures ∙ first_or es fs c.args.code.0 c.args.byte)
