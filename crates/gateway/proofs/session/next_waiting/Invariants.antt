use Rattle.std.proofs.Common.{◌≡◌, ℕ, ◌+◌, ◌%◌, ◌<◌, false}
use Rattle.gateway.specs.Sessions.{session_of, waits}
use Rattle.gateway.proofs.session.next_waiting.Given as goal

-- no bytes wait of the coaches passed
abbrev pub invariant-loop-steps : goal.invariant-loop-steps
invariant-loop-steps l = (k : ℕ) → k < l.steps → waits (session_of l.sessions ((l.from + k) % 64)) ≡ false
