use Rattle.std.proofs.Common.{◌≡◌, List, filter, ◌∙◌, subst}
use Rattle.pairs.specs.declared.pair.PairEntry.{PairEntry}
use Rattle.automaton.specs.Sound.{meant}
use Rattle.pair_table.specs.Steps.{accepts_byte, listed, WrongSecond}
use Rattle.pair_table.proofs.Sorted.{wrong_at}
use Rattle.pair_table.proofs.check.Table.first_wrong_at.Goals as goal

pub returns : goal.returns
returns c =
    let a = meant c.args.self.now.automaton in
    let code = listed c.args.self.now.codes.now in
    let es = c.args.self.now.entries.now in
    let s = c.args.state.0 in
    let b = c.args.byte in
    let found = c.first_wrong_second.result in
    let own : c.as_slice.result.now ≡ filter (accepts_byte b) es = c.as_slice.ensures.value ∙ c.take_at.ensures in
    wrong_at a code es s b found (subst (λ (l : List PairEntry). WrongSecond a code l s b found) own c.first_wrong_second.ensures)
