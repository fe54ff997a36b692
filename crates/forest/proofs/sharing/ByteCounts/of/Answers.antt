use Rattle.std.proofs.Common.{rules, arith}
use Rattle.forest.proofs.sharing.ByteCounts.of.Goals as goal

pub invariant_of-result-clause-loops_counted : goal.invariant_of-result-clause-loops_counted
invariant_of-result-clause-loops_counted c = (
  omega (arith, c.each_state-loops.ensures.long, c.states.ensures),
  λ s hs. let told = c.each_state-loops.ensures.each s 0 (omega arith) in search rules,
)

pub invariant_of-result-clause-counts_met : goal.invariant_of-result-clause-counts_met
invariant_of-result-clause-counts_met c s t below low high = c.loop-s.invariant.1 s t (omega arith) low high
