use Rattle.std.proofs.Common.{◌≡◌, ℕ, ◌<◌, cond, Some, None, get_or}
use Rattle.automaton.specs.Sound.{meant}
use Rattle.forest.specs.Placing.{root_place, beaten_in}
use Rattle.forest.proofs.placing.roots.Given as goal

-- the roots below s are placed, and no other state below s
abbrev pub invariant-loop-s : goal.invariant-loop-s
invariant-loop-s l = (k : ℕ) → k < l.s → get_or l.place-items k None ≡ cond (beaten_in l.grove.labels (meant l.counts.automaton) k) None (Some root_place)
