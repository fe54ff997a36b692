use Rattle.std.proofs.Common.{◌≡◌, ◌+◌, true, is_err, Err, Result, OnOk, length, sym, refl, ap, ◌∙◌, subst}
use Rattle.std.proofs.lemmas.Result.{err_from_is_err_and}
use Rattle.std.proofs.lemmas.Bool.{false≢true}
use Rattle.automaton.specs.Limits.{handed}
use Rattle.image.specs.Format.{decode}
use Rattle.ternary.specs.declared.refusal.Refusal.{Refusal}
use Rattle.scanner.specs.declared.scanner.Scanner.{Scanner}
use Rattle.scanner.specs.Book.{Loads}
use Rattle.scanner.specs.Scanners.{seen, done_told, LoadAnswer, KeepsOn}
use Rattle.scanner.proofs.Entering.{entered_from}
use Rattle.scanner.proofs.Turns.{load_declines, load_enters}
use Rattle.scanner.proofs.scanner.Scanner.load.Goals as goal

pub returns-in_err-start : goal.returns-in_err-start
returns-in_err-start g c =
    let p = err_from_is_err_and c.from_residual.result c.from_residual.ensures.1 in
    let err = p.1 ∙ ap Err p.2 in
    let s = seen g.C.Card.entries g.C.Card.size c.args.self.now in
    let a = handed c.args.automaton in
    let why = c.in_err-start.ensures.answer in
    let image = c.args.image.now in
    let same : c.load_card.new.card ≡ c.args.self.now.card = c.in_err-start.ensures.refused refl in
    subst (λ (later : _).
    record {
      refused : is_err c.from_residual.result ≡ true → ◌≡◌ {A = Scanner g.row.C.Denot} (record { card = later; position = c.args.self.now.position }) c.args.self.now;
      answer : LoadAnswer a image s (seen g.C.Card.entries g.C.Card.size (record { card = later; position = c.args.self.now.position })) c.from_residual.result;
      free : OnOk c.from_residual.result (g.C.Card.free later + length (decode image).entries ≡ g.C.Card.size c.args.self.now.card);
      keeps : KeepsOn (Loads (g.C.Card.size c.args.self.now.card) a image) s (done_told c.from_residual.result) (seen g.C.Card.entries g.C.Card.size (record { card = later; position = c.args.self.now.position }));
    }) (sym same)
    record {
      refused = λ e. refl;
      answer = subst (LoadAnswer a image s s) (sym err) why;
      free = subst (λ (r : Result (Unit {0}) Refusal). OnOk r (g.C.Card.free c.args.self.now.card + length (decode image).entries ≡ g.C.Card.size c.args.self.now.card)) (sym err) tt;
      keeps = load_declines s a image c.from_residual.result _ err why;
    }

pub returns : goal.returns
returns g c =
    let before = seen g.C.Card.entries g.C.Card.size c.args.self.now in
    let a = handed c.args.automaton in
    let done = entered_from a c.args.image.now before _ _ c.in_ok-start.ensures.answer in
    record {
      refused = λ e. absurd (false≢true e);
      answer = done;
      free = c.in_ok-start.ensures.free;
      keeps = load_enters before _ a c.args.image.now done;
    }
