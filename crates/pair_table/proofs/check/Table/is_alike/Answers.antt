use Rattle.std.proofs.Common.{◌≡◌, sym, ◌∙◌, subst}
use Rattle.std.proofs.lemmas.Bool.{eqb-true, OnTrue_from}
use Rattle.automaton.specs.Sound.{meant}
use Rattle.pair_table.specs.Steps.{listed, Alike}
use Rattle.pair_table.proofs.Settled.{carried_alike}
use Rattle.pair_table.proofs.check.Table.is_alike.Goals as goal

pub returns-then-eq : goal.returns-then-eq
returns-then-eq c =
    let a = meant c.args.self.now.automaton in
    let code = listed c.args.self.now.codes.now in
    let es = c.args.self.now.entries.now in
    let s = c.args.state.0 in
    let to : a.next s c.args.byte ≡ a.next s c.in-Some.earlier = sym c.next.ensures.value ∙ (eqb-true c.next.result.0 c.next-2.result.0 (sym c.eq.ensures ∙ c.if-eq.true) ∙ c.next-2.ensures.value) in
    OnTrue_from c.all_alike.result (Alike a code es s c.args.byte c.args.earlier)
    (λ is. subst (Alike a code es s c.args.byte) (sym c.in-Some.is) (carried_alike a code es s c.args.byte c.in-Some.earlier to (sym c.all_alike.ensures ∙ is)))
