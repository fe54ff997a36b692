use Rattle.std.proofs.Common.{Err, refl}
use Rattle.ternary.specs.declared.refusal.Refusal.TheVariants.{BadAutomaton}
use Rattle.pair_builder.specs.Build.{beyond}
use Rattle.measured.proofs.Beyond.{too_many}
use Rattle.measured.proofs.pair_calls.measured_pair_build.Goals as goal

pub returns-then-successors-gt-MOST_SUCCESSORS : goal.returns-then-successors-gt-MOST_SUCCESSORS
returns-then-successors-gt-MOST_SUCCESSORS c =
    (Err BadAutomaton, (refl, beyond (too_many _ _ _ _ c.if-successors-gt-MOST_SUCCESSORS.true) refl), c.built.ensures)
