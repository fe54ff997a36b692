use Rattle.std.proofs.Common.{◌≡◌, ℕ, ◌+◌, ◌<◌, ◌≤◌, List, [], ◌∷◌, ◌++◌, map, length, sym, ap, ◌∙◌, subst, arith, length-append}
use Rattle.std.specs.List.{AllByRecursion}
use Rattle.ternary.specs.declared.entry.Entry.{Entry}
use Rattle.ternary.specs.declared.words.StateNo.{StateNo}
use Rattle.automaton.specs.Limits.{handed}
use Rattle.automaton.specs.Sound.{meant}
use Rattle.prefix.specs.declared.word.PrefixWord.{PrefixWord}
use Rattle.builder.specs.Lists.{entry_for}
use Rattle.pairs.specs.declared.pair.PairEntry.{PairEntry}
use Rattle.pair_builder.specs.Unrolled.{single, double, closing_word, pair_block}
use Rattle.pair_builder.specs.Choosing.{front_of, choice_of}
use Rattle.pair_builder.proofs.Closing.{front_below}
use Rattle.pair_builder.proofs.Collecting.{broken}
use Rattle.pair_builder.proofs.Pieces.{opened_block, gathered_three}
use Rattle.pair_builder.proofs.planned.Planned.gather_opened.Goals as goal

pub gather_singles-requires-clause-words : goal.gather_singles-requires-clause-words
gather_singles-requires-clause-words c =
    let sound = c.args.self.now.automaton in
    subst (λ (ws : List (PrefixWord StateNo)). AllByRecursion (λ w. w.next.0 < (meant sound).states) ws) (sym (c.as_slice.ensures.value ∙ c.front_of-front.ensures)) (front_below (handed sound.automaton) sound.within c.args.state.0)

pub gather_doubles-requires-clause-words : goal.gather_doubles-requires-clause-words
gather_doubles-requires-clause-words c =
    let sound = c.args.self.now.automaton in
    subst (λ (ws : List (PrefixWord StateNo)). AllByRecursion (λ w. w.next.0 < (meant sound).states) ws) (sym (c.as_slice-2.ensures.value ∙ c.front_of-front.ensures)) (front_below (handed sound.automaton) sound.within c.args.state.0)

pub returns-in_err-gather_doubles : goal.returns-in_err-gather_doubles
returns-in_err-gather_doubles c =
    let a = meant c.args.self.now.automaton in
    let s = c.args.state.0 in
    let last = c.entry_of-last.result in
    let last_is : last ≡ entry_for a s (closing_word s) = c.entry_of-last.ensures ∙ ap (entry_for a s) c.closing_word.ensures in
    let one = λ (w : PrefixWord StateNo). single (entry_for a s w) in
    let two = λ (e : Entry) (w : PrefixWord StateNo). double e (entry_for a s w) in
    let front1 = c.as_slice.ensures.value ∙ c.front_of-front.ensures in
    let front2 = c.as_slice-2.ensures.value ∙ c.front_of-front.ensures in
    let singles : List PairEntry = map one c.as_slice.result.now in
    let doubles : List PairEntry = map (two last) c.as_slice-2.result.now in
    let whole : pair_block a (choice_of a) s ≡ singles ++ (doubles ++ double last last ∷ []) =
    opened_block a s c.requires.opened ∙ (λ i. map one (sym front1 i) ++ (map (two (sym last_is i)) (sym front2 i) ++ double (sym last_is i) (sym last_is i) ∷ [])) in
    let before = c.args.gathered.now.items in
    broken before c.gather_singles.new.gathered.items c.gather_doubles.new.gathered.items c.gather_doubles.new.gathered.items doubles (pair_block a (choice_of a) s) c.from_residual-in_err-gather_doubles.result _
    c.from_residual-in_err-gather_doubles.ensures.1 c.in_err-gather_doubles.ensures
    (omega (arith, ap length c.in_ok-gather_singles.ensures, ap length whole, length-append before singles, length-append singles (doubles ++ double last last ∷ []), length-append doubles (double last last ∷ [])))

pub returns : goal.returns
returns c =
    let a = meant c.args.self.now.automaton in
    let s = c.args.state.0 in
    let last = c.entry_of-last.result in
    let last_is : last ≡ entry_for a s (closing_word s) = c.entry_of-last.ensures ∙ ap (entry_for a s) c.closing_word.ensures in
    let one = λ (w : PrefixWord StateNo). single (entry_for a s w) in
    let two = λ (e : Entry) (w : PrefixWord StateNo). double e (entry_for a s w) in
    let front1 = c.as_slice.ensures.value ∙ c.front_of-front.ensures in
    let front2 = c.as_slice-2.ensures.value ∙ c.front_of-front.ensures in
    let singles : List PairEntry = map one c.as_slice.result.now in
    let doubles : List PairEntry = map (two last) c.as_slice-2.result.now in
    let ended : c.double.result ≡ double (entry_for a s (closing_word s)) (entry_for a s (closing_word s)) = c.double.ensures ∙ (λ j. double (last_is j) (last_is j)) in
    let whole : pair_block a (choice_of a) s ≡ singles ++ (doubles ++ c.double.result ∷ []) =
    opened_block a s c.requires.opened ∙ (λ i. map one (sym front1 i) ++ (map (two (sym last_is i)) (sym front2 i) ++ sym ended i ∷ [])) in
    gathered_three c.args.gathered.now.items c.gather_singles.new.gathered.items c.gather_doubles.new.gathered.items c.add.new.gathered.items singles doubles (c.double.result ∷ []) (pair_block a (choice_of a) s) c.add.result
    c.in_ok-gather_singles.ensures c.in_ok-gather_doubles.ensures whole c.add.ensures
