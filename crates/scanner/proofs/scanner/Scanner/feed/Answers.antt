use Rattle.std.proofs.Common.{rules, ◌≡◌, refl, length, Some, None, Err, sym, subst, arith}
use Rattle.ternary.specs.declared.refusal.Refusal.TheVariants.{NotLoaded}
use Rattle.scanner.specs.Book.{Feeds}
use Rattle.scanner.specs.Scanners.{seen, fed_told, KeepsOn}
use Rattle.scanner.proofs.Simulation.{bytes_from_typed}
use Rattle.scanner.proofs.Turns.{feed_loaded, feed_stays, same_scanner, feed_declines, feed_takes}
use Rattle.scanner.proofs.scanner.Scanner.feed.Goals as goal

pub returns-in_err-at-clause-keeps : goal.returns-in_err-at-clause-keeps
returns-in_err-at-clause-keeps g c =
    let before = seen g.C.Card.entries g.C.Card.size c.args.self.now in
    let none : c.args.self.now.position ≡ None = search rules in
    let refused : c.from_residual.result ≡ Err NotLoaded = search rules in
    subst (λ r. KeepsOn (Feeds c.args.piece.now (length c.args.marks.now)) before (fed_told r c.args.marks.now) before) (sym refused) (feed_declines before _ _ none)

pub returns : goal.returns
returns g c =
    let before = seen g.C.Card.entries g.C.Card.size c.args.self.now in
    let outcome = c.walk-answer.ensures.outcome in
    let is : c.args.self.now.position ≡ Some c.in_ok-at.at = search rules in
    record {
      card = refl;
      refused = λ why err other.
          let stays = feed_stays before.listed c.in_ok-at.at.code c.code_reached-code.result _ _ _ c.walk-answer.result outcome c.code_reached-code.ensures why err other in
          (same_scanner c.args.self.now c.in_ok-at.at c.code_reached-code.result is stays.0, stays.1);
      answer = feed_loaded before.listed before.position c.in_ok-at.at _ _ _ c.walk-answer.result _ is outcome c.code_reached-code.ensures;
      keeps = feed_takes before c.in_ok-at.at _ _ _ c.walk-answer.result _ is (bytes_from_typed _ (λ i. omega (arith, c.type_inv.piece i))) outcome c.code_reached-code.ensures;
    }
