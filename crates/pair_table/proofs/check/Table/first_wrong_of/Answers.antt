use Rattle.std.proofs.Common.{◌≡◌, List, filter, ap, ◌∙◌, subst}
use Rattle.pairs.specs.declared.pair.PairEntry.{PairEntry}
use Rattle.ternary.specs.declared.words.StateCode.{StateCode}
use Rattle.automaton.specs.Sound.{meant}
use Rattle.pair_table.specs.Steps.{accepts_code, listed, WrongBytes}
use Rattle.pair_table.proofs.Sorted.{wrong_of}
use Rattle.pair_table.proofs.check.Table.first_wrong_of.Goals as goal

pub returns : goal.returns
returns c =
    let a = meant c.args.self.now.automaton in
    let code = listed c.args.self.now.codes.now in
    let es = c.args.self.now.entries.now in
    let s = c.args.state.0 in
    let found = c.first_wrong_bytes.result in
    let own : c.as_slice.result.now ≡ filter (accepts_code (code s).0) es =
    c.as_slice.ensures.value ∙ (c.take_for.ensures ∙ ap (λ (x : StateCode). filter (accepts_code x.0) es) c.code.ensures) in
    wrong_of a code es s found (subst (λ (l : List PairEntry). WrongBytes a code l s found) own c.first_wrong_bytes.ensures)
