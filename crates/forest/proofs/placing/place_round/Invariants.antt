use Rattle.std.proofs.Common.{◌≡◌, ℕ, ◌<◌, None, get_or}
use Rattle.automaton.specs.Runs.{Dfa}
use Rattle.forest.specs.Deferment.{trees_of}
use Rattle.forest.specs.Joining.{trees_in}
use Rattle.forest.specs.Placing.{Placed}
use Rattle.forest.proofs.Places.{Done}
use Rattle.forest.proofs.placing.place_round.Given as goal

-- what is placed is right, and the joins so far are done
abbrev pub invariant-loop-join : goal.invariant-loop-join
invariant-loop-join l =
    (a : Dfa) → trees_in l.grove ≡ trees_of a → l.r < a.states → Placed a (trees_of a) l.r l.initial.places →
    Placed a (trees_of a) l.r l.places
    × ((k : ℕ) → k < l.join-index → Done a (trees_of a) l.r l.places (get_or l.grove.joins k None))
