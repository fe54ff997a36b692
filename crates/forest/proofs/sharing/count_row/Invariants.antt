use Rattle.std.proofs.Common.{◌≡◌, ℕ, ◌+◌, ◌*◌, ◌<◌, get_or, true, false}
use Rattle.automaton.specs.Sound.{meant}
use Rattle.forest.specs.Deferment.{shared}
use Rattle.forest.specs.Sharing.{RowsCounted, RowsMet}
use Rattle.forest.proofs.sharing.count_row.Given as goal

-- the rows before are kept, and this row is counted and its counts are met below t
abbrev pub invariant-loop-t : goal.invariant-loop-t
invariant-loop-t l = let a = meant l.automaton in let s = l.s.0 in
    (RowsCounted a l.initial.counts s →
    RowsCounted a l.counts s × ((r : ℕ) → s < r → r < l.t → get_or l.counts (s * a.states + r) 0 ≡ shared a s r))
    × (RowsMet a l.initial.met s →
    RowsMet a l.met s × ((r : ℕ) → s < r → r < l.t → get_or l.met (shared a s r) false ≡ true))
