use Rattle.std.proofs.Common.{rules, ◌≡◌, sym, ap, ◌∙◌, subst}
use Rattle.std.specs.Option.{option_map, option_copied}
use Rattle.pairs.specs.Match.{IsFirst, decision}
use Rattle.pairs.proofs.FirstMatch.{first_found, first_is_first}
use Rattle.pairs.proofs.pair.matching.first_pair.Goals as goal

pub returns-clause-value : goal.returns-clause-value
returns-clause-value c =
    let told : c.map.result ≡ option_map decision (option_copied c.find.result) = search rules in
    told ∙ (ap (option_map decision) c.find.ensures ∙ first_found c.args.entries.now c.args.code.0 c.args.byte c.args.second)

pub returns-clause-first : goal.returns-clause-first
returns-clause-first c =
    subst (IsFirst c.args.entries.now c.args.code.0 c.args.byte c.args.second) (sym (returns-clause-value c)) (first_is_first c.args.entries.now c.args.code.0 c.args.byte c.args.second)
