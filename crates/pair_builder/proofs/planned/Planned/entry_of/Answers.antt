use Rattle.std.proofs.Common.{ap, ◌∙◌}
use lib.Bits.{bit_and}
use Rattle.ternary.proofs.EntryLaws.{entry-same}
use Rattle.automaton.specs.Sound.{meant}
use Rattle.forest.specs.declared.plan.Placement.{Placement}
use Rattle.builder.specs.Lists.{entry_for}
use Rattle.pair_builder.proofs.planned.Planned.entry_of.Goals as goal

pub returns : goal.returns
returns c =
    let own = c.place_of-own.ensures in
    let next = c.place_of-next.ensures in
    let k = c.new.ensures in
    entry-same c.new.result (entry_for (meant c.args.self.now.automaton) c.args.state.0 c.args.word)
    (k.code_value ∙ ap (λ (p : Placement). bit_and p.code.0 p.mask) own)
    (k.code_mask ∙ ap (λ (p : Placement). p.mask) own)
    (k.byte_value ∙ (λ i. bit_and (c.byte_value.ensures.value i) (c.byte_mask.ensures i)))
    (k.byte_mask ∙ c.byte_mask.ensures)
    (k.next ∙ ap (λ (p : Placement). p.code) next)
    (k.class ∙ c.class.ensures)
