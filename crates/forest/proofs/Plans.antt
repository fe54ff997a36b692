-- Plans of the forests that arrays describe, and the plan of an automaton. Assumes nothing.
use Rattle.std.proofs.Common.{◌≡◌, ℕ, ◌<◌, ◌≤◌, List, length, map, get_or, ext_get_or, Some, None, Option, MatchOption, sym, ap, ◌∙◌, subst, arith}
use Rattle.std.proofs.lemmas.Bool.{cond-true, cond-false, le-leb, lt-leb}
use Rattle.std.specs.List.{range_with_len}
use Rattle.std.proofs.lemmas.List.FromFn.{length-map-range_with_len, get_or-map-range_with_len}
use Rattle.std.proofs.lemmas.Option.{get_or_from_slice_get, slice_get_past}
use Rattle.automaton.specs.Runs.{Dfa}
use Rattle.forest.specs.Deferment.{joined_forest, loose_forest, forest_of}
use Rattle.forest.specs.Forest.{Forest, code, mask}
use Rattle.forest.specs.declared.placing.Place.{Place}
use Rattle.forest.specs.Placing.{forest_at, AllInPlace}
use Rattle.forest.specs.declared.plan.Placement.{Placement}
use Rattle.forest.specs.declared.plan.Plan.{Plan}
use Rattle.forest.specs.Plan.{Planned, PlanOf, states_of, placement_of, placement_in, state_named}
use Rattle.forest.proofs.Agree.{place_parent, place_depth, places_width, places_code, places_mask}

-- two forests give a state one place
pub place_same : (f g : Forest) (s : ℕ) → f.parent s ≡ g.parent s → f.depth s ≡ g.depth s → code f s ≡ code g s → mask f s ≡ mask g s → placement_of f s ≡ placement_of g s
place_same f g s p d c m = λ i. record { parent = state_named (p i); depth = d i; code = record { 0 = c i }; mask = m i }

-- what the places of the joined states plan is the automaton's plan, if their codes fit
module _ (a : Dfa) (places : List Place) (all : AllInPlace a places) where
  planned_joined : (p : Plan) → (states_of p ≡ length places) × Planned (forest_at places) p → PlanOf a p
  unfolding forest_of
  planned_joined p (states, told) =
      let fits : (joined_forest a).width ≤ 16 = omega (arith, places_width a places all, told.wide, told.narrow_enough) in
      let is : forest_of a ≡ joined_forest a = cond-true _ (joined_forest a) (loose_forest a) (le-leb (joined_forest a).width 16 fits) in
      let planned : Planned (joined_forest a) p = record {
        wide = told.wide ∙ places_width a places all;
        narrow_enough = told.narrow_enough;
        placed = λ s hs.
            let h : s < a.states = omega (arith, states, all.0) in
            told.placed s hs ∙ ap (λ (q : Placement). Some q) (place_same (forest_at places) (joined_forest a) s (place_parent a places all s h) (place_depth a places all s h) (places_code a places all s h) (places_mask a places all s h));
      } in (states ∙ all.0, subst (λ (f : Forest). Planned f p) (sym is) planned)

  -- and else every state is a root
  planned_loose : 16 < (forest_at places).width → (p : Plan) → (states_of p ≡ a.states) × Planned (loose_forest a) p → PlanOf a p
  unfolding forest_of
  planned_loose wide p (states, told) =
      let is : forest_of a ≡ loose_forest a = cond-false _ (joined_forest a) (loose_forest a) (lt-leb (joined_forest a).width 16 (omega (arith, places_width a places all))) in
      (states, subst (λ (f : Forest). Planned f p) (sym is) told)

  -- one of the two
  pub planned_either : {Flat : Type 0} → (made : Option Plan) → MatchOption made (16 < (forest_at places).width) (λ p. (states_of p ≡ length places) × Planned (forest_at places) p) →
      (p : Plan) → MatchOption made Flat (λ q. p ≡ q) → (Flat → (states_of p ≡ a.states) × Planned (loose_forest a) p) → PlanOf a p
  planned_either None wide p told flat = planned_loose wide p (flat told)
  planned_either (Some q) fits p told flat = subst (PlanOf a) (sym told) (planned_joined q fits)

-- what the plan of an automaton hands out
module _ (a : Dfa) (p : Plan) (of : PlanOf a p) where
  -- it has as many states as the automaton
  pub states_of_lem : states_of p ≡ a.states
  states_of_lem = of.0

  pub width_of : p.width ≡ (forest_of a).width
  width_of = of.1.wide

  -- each state has the place that the automaton's forest gives it
  pub placement_of_lem : (s : ℕ) → s < a.states → placement_in p s ≡ Some (placement_of (forest_of a) s)
  placement_of_lem s h = of.1.placed s (omega (arith, of.0))

  -- no other number has a place
  pub placement_none : (s : ℕ) → a.states ≤ s → placement_in p s ≡ None
  placement_none s h = slice_get_past p.places.items s (omega (arith, of.0))

  -- the places of its states are those that the forest gives, in state order
  pub placements_are : p.places.items ≡ map (placement_of (forest_of a)) (range_with_len 0 a.states)
  placements_are =
      let places = p.places.items in
      let given = placement_of (forest_of a) in
      let d = given 0 in
      ext_get_or d places (map given (range_with_len 0 a.states)) (of.0 ∙ sym (length-map-range_with_len given 0 a.states)) (λ s hs.
      get_or_from_slice_get places s (given s) d (of.1.placed s hs)
      ∙ sym (get_or-map-range_with_len given 0 a.states s s d (omega (arith, of.0)) (omega arith)))

-- one of these places
pub placement_at : (f : Forest) (n s : ℕ) (places : List Placement) (d : Placement) → places ≡ map (placement_of f) (range_with_len 0 n) → s < n → get_or places s d ≡ placement_of f s
placement_at f n s places d are h = ap (λ (ps : List Placement). get_or ps s d) are ∙ get_or-map-range_with_len (placement_of f) 0 n s s d h (omega arith)
