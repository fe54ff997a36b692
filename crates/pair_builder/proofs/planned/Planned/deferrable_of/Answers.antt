use Rattle.std.proofs.Common.{false, Option, sym, ap, ◌∙◌}
use Rattle.std.proofs.lemmas.List.{get_or-replicate}
use Rattle.automaton.specs.Sound.{meant}
use Rattle.builder.specs.Lists.{shared_with}
use Rattle.builder.proofs.Standing.{number_of, parent_is}
use Rattle.pair_builder.proofs.planned.Planned.deferrable_of.Goals as goal

pub returns-in-None : goal.returns-in-None
returns-in-None c byte h =
    let a = meant c.args.self.now.automaton in
    let s = c.args.state.0 in
    get_or-replicate 256 byte false false h
    ∙ ap (λ (o : Option _). shared_with a o s byte) (ap number_of (sym c.in-None.is) ∙ parent_is a s c.place_of.result c.place_of.ensures)
