use Rattle.std.proofs.Common.{ap, ◌∙◌}
use Rattle.ternary.specs.declared.words.StateNo.{StateNo}
use Rattle.automaton.specs.Sound.{meant}
use Rattle.prefix.specs.Listed.{numbered}
use Rattle.prefix.specs.States.{flags}
use Rattle.prefix.proofs.Choosing.{chosen-same}
use Rattle.pair_builder.specs.Choosing.{to_itself}
use Rattle.pair_builder.proofs.planned.Planned.front_of.Goals as goal

pub returns : goal.returns
returns c =
    let a = meant c.args.self.now.automaton in
    let s = c.args.state.0 in
    c.shortest_list.ensures.words
    ∙ chosen-same (numbered c.successors-row.result.now) (a.next s) (flags c.own_bytes.result) (to_itself a s)
    (λ byte h. ap (λ (t : StateNo). t.0) (c.successors-row.ensures.each byte h)) c.own_bytes.ensures
