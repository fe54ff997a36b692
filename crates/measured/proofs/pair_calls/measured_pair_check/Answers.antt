use Rattle.std.proofs.Common.{Err}
use Rattle.ternary.specs.declared.refusal.Refusal.TheVariants.{BadAutomaton}
use Rattle.pair_table.specs.Acceptance.{beyond}
use Rattle.measured.proofs.Beyond.{too_many}
use Rattle.measured.proofs.pair_calls.measured_pair_check.Goals as goal

pub returns-then-successors-gt-MOST_SUCCESSORS : goal.returns-then-successors-gt-MOST_SUCCESSORS
returns-then-successors-gt-MOST_SUCCESSORS c =
    (Err BadAutomaton, beyond (too_many _ _ _ _ c.if-successors-gt-MOST_SUCCESSORS.true), c.checked.ensures)
