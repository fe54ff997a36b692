use Rattle.std.proofs.Common.{rules, ◌≡◌, ap, ◌∙◌}
use Rattle.std.specs.Option.{option_map, unwrap_or}
use Rattle.automaton.proofs.Records.{next_found}
use Rattle.automaton.specs.File.{said}
use Rattle.automaton.proofs.file.record.Record.next.Goals as goal

pub returns : goal.returns
returns c =
    let r = said c.args.self.now in
    let told : c.map_or.result ≡ unwrap_or (option_map (λ x. x.next) c.deciding.result) r.default = search rules in
    told ∙ (ap (λ f. unwrap_or (option_map (λ x. x.next) f) r.default) c.deciding.ensures ∙ next_found r.ranges r.default c.args.byte)
