-- Choices of pairs of states to join, what they share, and the pairs that a forest joins.
use Rattle.std.specs.Prelude.{◌≡◌, ℕ, zero, suc, ◌<◌, ◌≤◌, min, max, true, ◌⊎◌, ◌↔◌, List, [], ◌∷◌, ◌++◌, All, Contains, sum_by, Some, None, Option}
use Rattle.ternary.specs.declared.words.StateNo.{StateNo}
use Rattle.automaton.specs.Runs.{Dfa}
use Rattle.forest.specs.declared.plan.Placement.{Placement}
use Rattle.forest.specs.declared.plan.Plan.{Plan}
use Rattle.forest.specs.Codes.{Parents}
use Rattle.forest.specs.Deferment.{shared, trees_of, joined_forest}
use Rattle.forest.specs.Plan.{states_of, placement_in}

-- ---- choices of pairs

-- a path from s to t: each step leads from one state of a pair of the list to the other
pub data Path (pairs : List (ℕ × ℕ)) : ℕ → ℕ → Type 0 where
  stay : {s : ℕ} → Path pairs s s
  step : {s t u : ℕ} → Contains pairs (s, t) ⊎ Contains pairs (t, s) →
      Path pairs t u → Path pairs s u

-- without a cycle: no path over the other pairs connects the states of a pair; so none stands twice
abbrev pub IsAcyclic : List (ℕ × ℕ) → Type 0
IsAcyclic pairs =
    (before after : List (ℕ × ℕ)) (p : ℕ × ℕ) → pairs ≡ before ++ p ∷ after →
    Path (before ++ after) p.0 p.1 → ⊥

-- a choice: pairs of states that share 32 bytes or more, the smaller first, which have no cycle
pub record Choice (a : Dfa) (pairs : List (ℕ × ℕ)) : Type 0 where
  pub close : All (λ p. (p.0 < p.1) × (p.1 < a.states) × (32 ≤ shared a p.0 p.1)) pairs
  pub acyclic : IsAcyclic pairs

-- how many bytes the two states of each pair share, in total
abbrev pub shared_total : Dfa → List (ℕ × ℕ) → ℕ
shared_total a pairs = sum_by (λ p. shared a p.0 p.1) pairs

-- the pairs are a choice, and no other choice shares more bytes in total
pub record Heaviest (a : Dfa) (pairs : List (ℕ × ℕ)) : Type 0 where
  pub choice : Choice a pairs
  pub most : (others : List (ℕ × ℕ)) → Choice a others →
      shared_total a others ≤ shared_total a pairs

-- ---- the pairs of a forest

-- the pair of a state and its parent, the smaller first; a root has no such pair
abbrev pub parent_pair : ℕ → Option ℕ → List (ℕ × ℕ)
parent_pair s None = []
parent_pair s (Some p) = (min s p, max s p) ∷ []

-- the pairs of the states below n and their parents
abbrev pub parent_pairs : Parents → ℕ → List (ℕ × ℕ)
parent_pairs parent zero = []
parent_pairs parent (suc s) = parent_pairs parent s ++ parent_pair s (parent s)

-- they are the pairs that the rule joins, and a heaviest choice
pub record JoinsHeaviest (a : Dfa) (pairs : List (ℕ × ℕ)) : Type 0 where
  pub joined : (s t : ℕ) → s < t → Contains pairs (s, t) ↔ ((trees_of a).joined s t ≡ true)
  pub heaviest : Heaviest a pairs

-- ---- the pairs of a plan

-- the number of a state, or none
abbrev pub number_if : Option StateNo → Option ℕ
number_if None = None
number_if (Some s) = Some s.0

-- the state that stands as parent in a placement
abbrev pub parent_in : Option Placement → Option ℕ
parent_in None = None
parent_in (Some place) = number_if place.parent

-- the pairs of all states of a plan and the states that they defer to
abbrev pub joined_pairs : Plan → List (ℕ × ℕ)
joined_pairs plan = parent_pairs (λ s. parent_in (placement_in plan s)) (states_of plan)

-- where the joined forest's codes have 16 bits or less, a plan joins a heaviest choice
abbrev pub HeaviestPlan : Dfa → Plan → Type 0
HeaviestPlan a plan = (joined_forest a).width ≤ 16 → JoinsHeaviest a (joined_pairs plan)
