-- The successors of an automaton within its limits.
use Rattle.std.proofs.Common.{ℕ, ◌+◌, ◌*◌, ◌<◌, length, arith}
use Rattle.std.proofs.ByRecursion.{All-get_or}
use Rattle.ternary.specs.declared.words.StateNo.{StateNo}
use Rattle.automaton.specs.Limits.{Handed, Within, dfa}

-- each successor is a state
pub successor_below : (a : Handed) → Within a → (s b : ℕ) → s < a.states → b < 256 → (dfa a).next s b < a.states
successor_below a within s b hs hb =
    let there : 256 * s + b < length a.successors = omega (arith, within.successors_count) in
    All-get_or (λ (n : StateNo). n.0 < a.states) a.successors (256 * s + b) (record { 0 = 0 }) there within.successors_below
