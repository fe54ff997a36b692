use Rattle.std.proofs.Common.{◌+◌, ◌<◌, List, [], ◌∷◌, ◌++◌, map, length, take, sym, ap, ◌∙◌, subst, arith, length-append}
use Rattle.std.specs.List.{AllByRecursion}
use Rattle.std.proofs.ByRecursion.{All-get_or}
use Rattle.std.proofs.lemmas.List.{map_more, take_all}
use Rattle.ternary.specs.declared.entry.Entry.{Entry}
use Rattle.ternary.specs.declared.words.StateNo.{StateNo}
use Rattle.automaton.specs.Limits.{handed}
use Rattle.automaton.specs.Sound.{meant}
use Rattle.prefix.specs.declared.word.PrefixWord.{PrefixWord}
use Rattle.builder.specs.Gathering.{lists_of}
use Rattle.builder.specs.Lists.{entry_for}
use Rattle.builder.proofs.Canonical.{lists_below}
use Rattle.builder.proofs.Collecting.{broken, further, up_to}
use Rattle.builder.proofs.planned.Planned.gather_state.Goals as goal

abbrev blank : PrefixWord StateNo
blank = record { bits = 0; value = 0; next = record { 0 = 0 } }

pub entry_of-requires : goal.entry_of-requires
entry_of-requires c =
    let sound = c.args.self.now.automaton in
    let words = c.as_slice-word-items.result.now in
    let below : AllByRecursion (λ w. w.next.0 < (meant sound).states) words = subst (λ (ws : List (PrefixWord StateNo)). AllByRecursion (λ w. w.next.0 < (meant sound).states) ws) (sym (c.as_slice-word-items.ensures.value ∙ c.list_of-list.ensures)) (lists_below (handed sound.automaton) sound.within c.args.state.0) in
    (c.requires, All-get_or (λ (w : PrefixWord StateNo). w.next.0 < (meant sound).states) words c.loop-word.word-index blank (omega arith) below)

pub returns-in_err-add : goal.returns-in_err-add
returns-in_err-add c =
    let f = entry_for (meant c.args.self.now.automaton) c.args.state.0 in
    let words = c.as_slice-word-items.result.now in
    let i = c.loop-word.word-index in
    let so_far = ap length c.loop-word.invariant ∙ length-append c.args.gathered.now.items (map f (take i words)) in
    let whole = ap (λ (ws : List (PrefixWord StateNo)). length (map f ws)) (c.as_slice-word-items.ensures.value ∙ c.list_of-list.ensures) in
    broken c.args.gathered.now.items c.loop-word.gathered.items c.add.new.gathered.items c.add.new.gathered.items (c.entry_of.result ∷ []) (map f (lists_of (meant c.args.self.now.automaton) c.args.state.0)) c.from_residual.result _
    c.from_residual.ensures.1 c.in_err-add.ensures (omega (arith, so_far, whole, up_to f words i (omega arith)))

pub loop-word-preserved : goal.loop-word-preserved
loop-word-preserved c =
    let f = entry_for (meant c.args.self.now.automaton) c.args.state.0 in
    let words = c.as_slice-word-items.result.now in
    let i = c.loop-word.word-index in
    further c.args.gathered.now.items c.loop-word.gathered.items c.add.new.gathered.items (map f (take i words)) (c.entry_of.result ∷ []) (map f (take (i + 1) words)) c.loop-word.invariant c.in_ok-add.ensures
    (map_more f words i blank (omega arith) ∙ ap (λ (x : Entry). map f (take i words) ++ x ∷ []) (sym c.entry_of.ensures))

pub returns : goal.returns
returns c =
    let f = entry_for (meant c.args.self.now.automaton) c.args.state.0 in
    c.loop-word.invariant
    ∙ ap (λ (ws : List (PrefixWord StateNo)). c.args.gathered.now.items ++ map f ws) (take_all c.loop-word.word-index c.as_slice-word-items.result.now (omega arith) ∙ (c.as_slice-word-items.ensures.value ∙ c.list_of-list.ensures))
