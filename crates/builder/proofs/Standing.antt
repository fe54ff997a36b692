-- The state that a state of the automaton's forest defers to. Assumes nothing.
use Rattle.std.proofs.Common.{◌≡◌, ℕ, Some, None, Option, refl, ap, ◌∙◌}
use Rattle.ternary.specs.declared.words.StateNo.{StateNo}
use Rattle.automaton.specs.Runs.{Dfa}
use Rattle.forest.specs.declared.plan.Placement.{Placement}
use Rattle.forest.specs.Deferment.{forest_of}
use Rattle.forest.specs.Plan.{state_named, placement_of}

-- the number of a state, if there is one
abbrev pub number_of : Option StateNo → Option ℕ
number_of None = None
number_of (Some s) = Some s.0

number_back : (o : Option ℕ) → number_of (state_named o) ≡ o
number_back None = refl
number_back (Some s) = refl

-- the place of a state says its parent in the forest
pub parent_is : (a : Dfa) (s : ℕ) (place : Placement) → place ≡ placement_of (forest_of a) s → number_of place.parent ≡ (forest_of a).parent s
parent_is a s place is = ap (λ (p : Placement). number_of p.parent) is ∙ number_back ((forest_of a).parent s)
