use Rattle.std.proofs.Common.{ℕ, ◌<◌}
use Rattle.automaton.specs.Sound.{meant}
use Rattle.pairs.specs.Carries.{Right}
use Rattle.pair_table.specs.Steps.{listed}
use Rattle.pair_table.proofs.check.Table.first_wrong_second.Given as goal

-- the second bytes so far are decided right
abbrev pub invariant-loop-second : goal.invariant-loop-second
invariant-loop-second l = (c : ℕ) → c < l.second → Right (meant l.self.automaton) (listed l.self.codes.now) l.self.entries.now l.state.0 l.byte c
