use Rattle.std.proofs.Common.{◌≡◌, ◌<◌, List, map, false, sym, ap, ◌∙◌, subst}
use Rattle.std.specs.List.{AllByRecursion}
use Rattle.ternary.specs.declared.words.StateNo.{StateNo}
use Rattle.automaton.specs.Limits.{handed}
use Rattle.automaton.specs.Sound.{meant}
use Rattle.prefix.specs.declared.word.PrefixWord.{PrefixWord}
use Rattle.builder.specs.Lists.{entry_for}
use Rattle.builder.proofs.Canonical.{lists_below}
use Rattle.pair_builder.specs.Unrolled.{single}
use Rattle.pair_builder.specs.Choosing.{choice_of}
use Rattle.pair_builder.proofs.Pieces.{kept_block, gathers_same}
use Rattle.pair_builder.proofs.planned.Planned.gather_state.Goals as goal

pub gather_singles-requires-clause-words : goal.gather_singles-requires-clause-words
gather_singles-requires-clause-words c =
    let sound = c.args.self.now.automaton in
    subst (λ (ws : List (PrefixWord StateNo)). AllByRecursion (λ w. w.next.0 < (meant sound).states) ws) (sym (c.as_slice.ensures.value ∙ c.list_of-list.ensures)) (lists_below (handed sound.automaton) sound.within c.args.state.0)

pub returns-else-opens : goal.returns-else-opens
returns-else-opens c =
    let a = meant c.args.self.now.automaton in
    let s = c.args.state.0 in
    let shut : (choice_of a).opened s ≡ false = sym c.opens.ensures ∙ c.if-opens.false in
    gathers_same _ _ _ _ _ (ap (map (λ (w : PrefixWord StateNo). single (entry_for a s w))) (c.as_slice.ensures.value ∙ c.list_of-list.ensures) ∙ sym (kept_block a s shut)) c.gather_singles.ensures
