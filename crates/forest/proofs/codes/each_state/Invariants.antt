use Rattle.std.proofs.Common.{◌≡◌, ℕ, ◌<◌, length, get_or}
use Rattle.automaton.specs.File.{state_no}
use Rattle.forest.proofs.codes.each_state.Given as goal

abbrev pub invariant-loop-s : goal.invariant-loop-s
invariant-loop-s g l = (length l.items.items ≡ l.s) × ((k : ℕ) (d : _) → k < l.s → goal.F-post g l.given (state_no k) (get_or l.items.items k d))
