use Rattle.std.proofs.Common.{nat_eq, ◌∙◌}
use Rattle.std.proofs.lemmas.List.{get_or-replicate}
use Rattle.pair_builder.proofs.planned.Planned.own_bytes.Goals as goal

pub returns : goal.returns
returns c = λ byte h. c.shared_bytes.ensures byte h ∙ (λ i. nat_eq (c.successors-row.ensures.each byte h i).0 (get_or-replicate 256 byte c.args.state (record { 0 = 0 }) h i).0)
