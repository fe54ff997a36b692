use Rattle.std.proofs.Common.{ℕ, ◌<◌}
use Rattle.automaton.specs.Sound.{meant}
use Rattle.pairs.specs.Carries.{Right}
use Rattle.pair_table.specs.Steps.{listed}
use Rattle.pair_table.proofs.check.Table.first_wrong.Given as goal

-- the states so far are decided right
abbrev pub invariant-loop-number : goal.invariant-loop-number
invariant-loop-number l = (s : ℕ) → s < l.number → (b : ℕ) → b < 256 → (c : ℕ) → c < 256 → Right (meant l.self.automaton) (listed l.self.codes.now) l.self.entries.now s b c
