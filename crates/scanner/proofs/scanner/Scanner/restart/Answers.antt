use Rattle.std.proofs.Common.{rules, ◌≡◌, refl, Some, None, Err, sym, subst}
use Rattle.std.proofs.lemmas.Bool.{false≢true}
use Rattle.ternary.specs.declared.refusal.Refusal.TheVariants.{NotLoaded}
use Rattle.scanner.specs.Book.{Restarts}
use Rattle.scanner.specs.Scanners.{seen, done_told, KeepsOn}
use Rattle.scanner.proofs.Turns.{restart_loaded, restart_declines, restart_drops}
use Rattle.scanner.proofs.scanner.Scanner.restart.Goals as goal

pub returns-in_err-at-clause-keeps : goal.returns-in_err-at-clause-keeps
returns-in_err-at-clause-keeps g c =
    let before = seen g.C.Card.entries g.C.Card.size c.args.self.now in
    let none : c.args.self.now.position ≡ None = search rules in
    let refused : c.from_residual.result ≡ Err NotLoaded = search rules in
    subst (λ r. KeepsOn Restarts before (done_told r) before) (sym refused) (restart_declines before none)

pub returns : goal.returns
returns g c =
    let is : c.args.self.now.position ≡ Some c.in_ok-at.at = search rules in
    record {
      card = refl;
      refused = λ e. absurd (false≢true e);
      answer = restart_loaded c.args.self.now.position c.in_ok-at.at is;
      keeps = restart_drops (seen g.C.Card.entries g.C.Card.size c.args.self.now) c.in_ok-at.at is;
    }
