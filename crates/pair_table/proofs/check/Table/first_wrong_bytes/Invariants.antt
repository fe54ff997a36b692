use Rattle.std.proofs.Common.{ℕ, ◌<◌}
use Rattle.std.specs.Prelude.{IfSome}
use Rattle.automaton.specs.Sound.{meant}
use Rattle.pair_table.specs.Steps.{RightAt, listed}
use Rattle.pair_table.proofs.check.Table.first_wrong_bytes.Given as goal

-- the bytes so far are decided right, the latest that was looked through among them
abbrev pub invariant-loop-byte : goal.invariant-loop-byte
invariant-loop-byte l =
    ((b : ℕ) → b < l.byte → RightAt (meant l.self.automaton) (listed l.self.codes.now) l.self.entries.now l.state.0 b)
    × IfSome l.latest (λ b. b < l.byte)
