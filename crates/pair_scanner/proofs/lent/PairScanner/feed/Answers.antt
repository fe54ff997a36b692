use Rattle.std.proofs.Common.{rules, ◌≡◌, length, Some, None, Err, sym, subst, arith}
use Rattle.ternary.specs.declared.refusal.Refusal.TheVariants.{NotLoaded}
use Rattle.scanner.proofs.Simulation.{bytes_from_typed}
use Rattle.pair_scanner.specs.Book.{Feeds}
use Rattle.pair_scanner.specs.Scanners.{seen, fed_told, KeepsOn}
use Rattle.pair_scanner.proofs.Turns.{feed_loaded, feed_declines, feed_takes, feed_searches, feed_stays, same_scanner}
use Rattle.pair_scanner.proofs.lent.PairScanner.feed.Goals as goal

pub returns-in_err-at-clause-keeps : goal.returns-in_err-at-clause-keeps
returns-in_err-at-clause-keeps g c =
    let before = seen g.C.Card.entries g.C.Card.size c.args.two.now c.args.one.now c.args.self.now in
    let none : c.args.self.now.position ≡ None = search rules in
    let refused : c.from_residual.result ≡ Err NotLoaded = search rules in
    subst (λ r. KeepsOn (Feeds c.args.piece.now (length c.args.marks.now)) before (fed_told r c.args.marks.now) before) (sym refused) (feed_declines before _ _ none)

pub returns : goal.returns
returns g c =
    let before = seen g.C.Card.entries g.C.Card.size c.args.two.now c.args.one.now c.args.self.now in
    let is : c.args.self.now.position ≡ Some c.in_ok-at.at = search rules in
    let all = bytes_from_typed c.args.piece.now (λ i. omega (arith, c.type_inv.piece i)) in
    record {
      refused = λ why err other.
          let stays = feed_stays before.list before.pair_list c.in_ok-at.at.code c.code_reached-code.result _ _ _ c.walk-answer.result c.walk-answer.ensures.answer c.walk-answer.ensures.marks c.code_reached-code.ensures why err other in
          (same_scanner c.args.self.now c.in_ok-at.at c.code_reached-code.result is stays.0, stays.1);
      answer = feed_loaded before.pair_list before.list before.position c.in_ok-at.at _ _ _ c.walk-answer.result _ is c.walk-answer.ensures.answer c.walk-answer.ensures.marks c.code_reached-code.ensures;
      keeps = feed_takes before c.in_ok-at.at _ _ _ c.walk-answer.result _ is all c.walk-answer.ensures.same c.code_reached-code.ensures;
      searches = feed_searches before c.in_ok-at.at _ _ _ c.walk-answer.result is all c.walk-answer.ensures.same;
    }
