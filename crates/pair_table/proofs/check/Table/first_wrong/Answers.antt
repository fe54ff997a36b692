use Rattle.std.proofs.Common.{ℕ, ◌<◌, below_more, arith}
use Rattle.automaton.specs.Sound.{meant}
use Rattle.pairs.specs.Carries.{Right}
use Rattle.pair_table.specs.Steps.{listed}
use Rattle.pair_table.proofs.check.Table.first_wrong.Goals as goal

pub loop-number-preserved : goal.loop-number-preserved
loop-number-preserved c =
    below_more (λ s. (b : ℕ) → b < 256 → (d : ℕ) → d < 256 → Right (meant c.args.self.now.automaton) (listed c.args.self.now.codes.now) c.args.self.now.entries.now s b d)
    _ c.loop-number.invariant c.in_default.ensures

pub returns-in-Some : goal.returns-in-Some
returns-in-Some c =
    let wrong = c.in-Some.ensures in
    record { state = omega (arith, c.loop-number-test.true, c.states-number-end.ensures); byte = wrong.0; second = wrong.1.0; wrong = wrong.1.1; lower_states = c.loop-number.invariant; lower_bytes = wrong.2; lower_seconds = wrong.1.2 }
