use Rattle.std.proofs.Common.{ℕ, get_or, ap, arith}
use Rattle.forest.specs.Arrays.{sum_above}
use Rattle.forest.specs.Held.{held}
use Rattle.forest.specs.Placing.{named}
use Rattle.forest.proofs.Sums.{sum_root, sum_step, none_named}
use Rattle.forest.proofs.codes.Deferment.sum_above.Goals as goal

pub overflow_add-sum : goal.overflow_add-sum
overflow_add-sum c =
    let at = c.loop-at in
    let amounts = c.args.amounts.now in
    omega (arith, at.invariant.1, c.requires.fits, sum_step c.args.self.now amounts at.at c.in-Some.p.0 at.invariant.0 (ap named c.in-Some.is), ap (λ (k : ℕ). get_or amounts k 0) c.from-at-in-Some.ensures)

pub loop-at-preserved : goal.loop-at-preserved
loop-at-preserved c =
    let at = c.loop-at in
    let amounts = c.args.amounts.now in
    let f = held c.args.self.now in (
      omega (arith, c.from-at-in-Some.ensures, c.args.self.now.rooted.inside at.at c.in-Some.p.0 at.invariant.0 (ap named c.in-Some.is)),
      omega (
        arith,
        at.invariant.1,
        sum_step c.args.self.now amounts at.at c.in-Some.p.0 at.invariant.0 (ap named c.in-Some.is),
        ap (λ (k : ℕ). get_or amounts k 0) c.from-at-in-Some.ensures,
        ap (sum_above f amounts) c.from-at-in-Some.ensures,
      ),
    )

pub returns : goal.returns
returns c = omega (arith, c.loop-at.invariant.1, sum_root c.args.self.now c.args.amounts.now c.loop-at.at (none_named _ c.in_default.not-Some))
