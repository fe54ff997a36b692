use Rattle.std.proofs.Common.{refl}
use Rattle.ternary.specs.declared.refusal.Refusal.TheVariants.{BadAutomaton}
use Rattle.table.specs.Acceptance.{beyond}
use Rattle.scanner.specs.Book.{unchecked}
use Rattle.measured.proofs.Beyond.{too_many}
use Rattle.measured.proofs.Waiting.{told_refused}
use Rattle.measured.proofs.turns.measured_turns.Goals as goal

pub returns-then-successors-gt-MOST_SUCCESSORS : goal.returns-then-successors-gt-MOST_SUCCESSORS
returns-then-successors-gt-MOST_SUCCESSORS c =
    told_refused _ _ _ _ _ 4096 c.number.result BadAutomaton refl (unchecked (beyond (too_many _ _ _ _ c.if-successors-gt-MOST_SUCCESSORS.true))) c.number.ensures
