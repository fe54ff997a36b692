use Rattle.std.proofs.Common.{ℕ, ◌<◌}
use Rattle.automaton.specs.Sound.{meant}
use Rattle.table.specs.Acceptance.{Right}
use Rattle.table.specs.Steps.{listed}
use Rattle.table.proofs.check.Table.first_wrong_byte.Given as goal

-- the bytes so far are decided right
abbrev pub invariant-loop-byte : goal.invariant-loop-byte
invariant-loop-byte l = (b : ℕ) → b < l.byte → Right (meant l.self.automaton) (listed l.self.codes.now) l.self.entries.now l.state.0 b
