use Rattle.std.proofs.Common.{◌≡◌, Some, sym, ap, ◌∙◌, subst}
use Rattle.std.proofs.lemmas.Bool.{OnTrue_from}
use Rattle.std.specs.List.{find}
use Rattle.std.specs.Option.{option_copied}
use Rattle.ternary.specs.Match as one
use Rattle.ternary.specs.declared.words.StateCode.{StateCode}
use Rattle.automaton.specs.Sound.{meant}
use Rattle.pair_table.specs.Steps.{listed, Leads, RightAt}
use Rattle.pair_table.proofs.Settled.{settled}
use Rattle.pair_table.proofs.check.Table.is_settled.Goals as goal

pub returns-in-One-eq0 : goal.returns-in-One-eq0
returns-in-One-eq0 c =
    let a = meant c.args.self.now.automaton in
    let code = listed c.args.self.now.codes.now in
    let es = c.args.self.now.entries.now in
    let s = c.args.state.0 in
    let b = c.args.byte in
    let e = c.in-Some.first.now in
    let first : find (λ x. one.matches x.entry (code s).0 b) es ≡ Some e =
    ap (λ (k : StateCode). find (λ x. one.matches x.entry k.0 b) es) (sym c.code.ensures) ∙ (sym c.first_at.ensures ∙ ap option_copied c.in-Some.is) in
    OnTrue_from c.leads.result (RightAt a code es s b)
    (λ is. settled a code es s b e first (sym c.second_mask.ensures ∙ c.in-One-eq0.is-1) (sym c.stride.ensures ∙ c.in-One-eq0.is-0)
    (subst (Leads a code s b) c.entry.ensures (c.leads.ensures.0 is)))
