use Rattle.std.proofs.Common.{◌≡◌, List, ap, ◌∙◌, subst}
use Rattle.ternary.specs.declared.entry.Entry.{Entry}
use Rattle.ternary.specs.declared.words.StateCode.{StateCode}
use Rattle.automaton.specs.Sound.{meant}
use Rattle.table.specs.Steps.{deciding, listed, WrongByte}
use Rattle.table.proofs.Sorted.{wrong_byte}
use Rattle.table.proofs.check.Table.first_wrong_of.Goals as goal

pub returns : goal.returns
returns c =
    let a = meant c.args.self.now.automaton in
    let code = listed c.args.self.now.codes.now in
    let es = c.args.self.now.entries.now in
    let s = c.args.state.0 in
    let found = c.first_wrong_byte.result in
    let own : c.as_slice.result.now ≡ deciding (code s).0 es =
    c.as_slice.ensures.value ∙ (c.take_for.ensures ∙ ap (λ (x : StateCode). deciding x.0 es) c.code.ensures) in
    wrong_byte a code es s found (subst (λ (l : List Entry). WrongByte a code l s found) own c.first_wrong_byte.ensures)
