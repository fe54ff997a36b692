-- What planning answers: who defers to whom, and the codes and shadows. Assumes nothing.
use Rattle.std.specs.Prelude.{◌≡◌, ℕ, ◌+◌, ◌*◌, ◌<◌, ◌≤◌, ◌⊎◌, List, [], length, Some, None, Ok, Err, Option, Result, slice_get}
use Rattle.arrayvec.specs.ArrayVec.{array_vec_len}
use Rattle.ternary.specs.declared.refusal.Refusal.{Refusal}
use Rattle.ternary.specs.Refusals.{KnownBy}
use Rattle.ternary.specs.declared.words.StateNo.{StateNo}
use Rattle.automaton.specs.Limits.{Handed, Within, dfa}
use Rattle.automaton.specs.Runs.{Dfa}
use Rattle.forest.specs.declared.plan.Placement.{Placement}
use Rattle.forest.specs.declared.plan.Plan.{Plan}
use Rattle.forest.specs.Forest.{Forest, code, mask}
use Rattle.forest.specs.Deferment.{forest_of}

-- how many states a plan has
abbrev pub states_of : Plan → ℕ
states_of p = array_vec_len p.places

-- a state, or none, by its number
abbrev pub state_named : Option ℕ → Option StateNo
state_named None = None
state_named (Some s) = Some (record { 0 = s })

-- the place of the state s in a forest: the state that it defers to, its steps to the root, its code, and the mask of its shadow
abbrev pub placement_of : Forest → ℕ → Placement
placement_of f s = record { parent = state_named (f.parent s); depth = f.depth s; code = record { 0 = code f s }; mask = mask f s }

-- what a plan hands out of the state s: nothing for a number that no state has
abbrev pub placement_in : Plan → ℕ → Option Placement
placement_in p s = slice_get p.places.items s

-- a plan has the width of a forest, and its states have their places in the forest
pub record Planned (f : Forest) (p : Plan) : Type 0 where
  pub wide : p.width ≡ f.width
  pub narrow_enough : p.width ≤ 16
  pub placed : (s : ℕ) → s < states_of p → placement_in p s ≡ Some (placement_of f s)

-- a plan is the automaton's
abbrev pub PlanOf : Dfa → Plan → Type 0
PlanOf a p = (states_of p ≡ a.states) × Planned (forest_of a) p

-- what planning answers, and the working memory after it: refused by 1 beyond a limit, then by 2 if there is too little memory, each with the memory as it was; else the automaton's plan
abbrev pub PlanAnswer : Handed → List ℕ → List ℕ → Result Plan Refusal → Type 0
PlanAnswer a before after (Ok p) = Within a × (a.states * a.states + 8192 ≤ length before) × PlanOf (dfa a) p
PlanAnswer a before after (Err why) = (after ≡ before) × (
    (KnownBy why 1 [] × (Within a → ⊥)) ⊎ (KnownBy why 2 [] × Within a × (length before < a.states * a.states + 8192)))
