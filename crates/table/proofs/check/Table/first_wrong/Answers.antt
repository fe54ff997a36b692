use Rattle.std.proofs.Common.{ℕ, ◌<◌, below_more, arith}
use Rattle.automaton.specs.Sound.{meant}
use Rattle.table.specs.Acceptance.{Right}
use Rattle.table.specs.Steps.{listed}
use Rattle.table.proofs.check.Table.first_wrong.Goals as goal

pub loop-number-preserved : goal.loop-number-preserved
loop-number-preserved c =
    below_more (λ s. (b : ℕ) → b < 256 → Right (meant c.args.self.now.automaton) (listed c.args.self.now.codes.now) c.args.self.now.entries.now s b)
    _ c.loop-number.invariant c.in_default.ensures

pub returns-in-Some : goal.returns-in-Some
returns-in-Some c =
    let wrong = c.in-Some.ensures in
    record { state = omega (arith, c.loop-number-test.true, c.states-number-end.ensures); byte = wrong.0; wrong = wrong.1; lower_states = c.loop-number.invariant; lower_bytes = wrong.2 }
