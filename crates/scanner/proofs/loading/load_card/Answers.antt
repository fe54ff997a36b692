use Rattle.std.proofs.Common.{◌≡◌, ◌+◌, None, Err, Result, OnOk, MatchResult, length, sym, refl, ap, ◌∙◌, subst}
use Rattle.std.proofs.lemmas.Result.{err_from_is_err_and}
use Rattle.std.proofs.lemmas.Bool.{false≢true}
use Rattle.automaton.specs.Limits.{handed}
use Rattle.image.specs.Format.{decode}
use Rattle.ternary.specs.declared.refusal.Refusal.{Refusal}
use Rattle.ternary.specs.declared.words.StateCode.{StateCode}
use Rattle.ternary.specs.Refusals.{number, values}
use Rattle.scanner.specs.Book.{LoadRefuses, unchecked}
use Rattle.scanner.specs.Scanners.{at_start, standing, Entered}
use Rattle.scanner.proofs.Entering.{exceeds, start_coded, left_free, entered}
use Rattle.scanner.proofs.loading.load_card.Goals as goal

pub returns-in_err-check : goal.returns-in_err-check
returns-in_err-check g c =
    let p = err_from_is_err_and c.from_residual.result c.from_residual.ensures.1 in
    let err = p.1 ∙ ap Err p.2 in
    let s = standing (g.C.Card.entries c.args.card.now) (g.C.Card.size c.args.card.now) None in
    let a = handed c.args.automaton in
    let image = c.args.image.now in
    record {
      refused = λ e. refl;
      answer = subst (λ (r : Result StateCode Refusal). MatchResult r
          (λ start. Entered a image s (standing (g.C.Card.entries c.args.card.now) (g.C.Card.size c.args.card.now) (at_start start)))
          (λ why. LoadRefuses (g.C.Card.size c.args.card.now) a image (number why) (values why))) (sym err) (unchecked c.in_err-check.ensures.answer);
      free = subst (λ (r : Result StateCode Refusal). OnOk r (g.C.Card.free c.args.card.now + length (decode image).entries ≡ g.C.Card.size c.args.card.now)) (sym err) tt;
    }

pub returns-then-header-capacity : goal.returns-then-header-capacity
returns-then-header-capacity g c =
    let s = standing (g.C.Card.entries c.args.card.now) (g.C.Card.size c.args.card.now) None in
    record {
      refused = λ e. refl;
      answer = exceeds (handed c.args.automaton) c.args.image.now c.in_ok-image.image c.in_ok-check.ensures.answer c.in_ok-image.ensures c.header.result c.header.ensures s c.capacity.result c.capacity.ensures c.if-header-capacity.true;
      free = tt;
    }

pub unreachable-requires : goal.unreachable-requires
unreachable-requires g c =
    start_coded (handed c.args.automaton) c.args.image.now c.in_ok-image.image c.in_ok-check.ensures.answer c.in_ok-image.ensures c.header.result c.header.ensures (sym c.code.ensures ∙ c.in_default.is)

pub returns : goal.returns
returns g c =
    let before = standing (g.C.Card.entries c.args.card.now) (g.C.Card.size c.args.card.now) None in
    let a = handed c.args.automaton in
    record {
      refused = λ e. absurd (false≢true e);
      answer = entered a c.args.image.now c.in_ok-image.image c.in_ok-check.ensures.answer c.in_ok-image.ensures c.header.result c.header.ensures
          before _ c.capacity.result c.in-Some.start c.capacity.ensures c.if-header-capacity.false (sym c.code.ensures ∙ c.in-Some.is) c.fill.ensures.listed c.fill.ensures.capacity refl;
      free = left_free a c.args.image.now c.in_ok-image.image c.in_ok-check.ensures.answer c.in_ok-image.ensures c.header.result c.header.ensures _ _ c.fill.ensures.free;
    }
