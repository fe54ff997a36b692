use Rattle.std.proofs.Common.{rules, ◌≡◌, ◌∙◌, Some, None, Err, sym, subst}
use Rattle.ternary.specs.declared.refusal.Refusal.TheVariants.{NotLoaded}
use Rattle.pair_scanner.specs.Book.{Restarts}
use Rattle.pair_scanner.specs.Scanners.{moved, done_told, KeepsOn}
use Rattle.pair_scanner.proofs.Turns.{restart_declines, restart_drops}
use Rattle.pair_scanner.proofs.lent.PairScanner.restart.Goals as goal

pub returns-in_err-at-clause-keeps : goal.returns-in_err-at-clause-keeps
returns-in_err-at-clause-keeps c =
    let none : c.args.self.now.position ≡ None = search rules in
    let refused : c.from_residual.result ≡ Err NotLoaded = search rules in
    λ s is. subst (λ r. KeepsOn Restarts s (done_told r) (moved s c.args.self.now.position)) (sym refused) (restart_declines s c.args.self.now.position is none)

pub returns-clause-keeps : goal.returns-clause-keeps
returns-clause-keeps c =
    let some : c.args.self.now.position ≡ Some c.in_ok-at.at = search rules in
    λ s is. restart_drops s c.in_ok-at.at (is ∙ some)
