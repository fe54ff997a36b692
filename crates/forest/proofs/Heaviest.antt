-- The pairs of the trees' parents are the joined pairs, and a heaviest choice; so are those of a plan and of its forest.
use Rattle.std.proofs.Common.{◌≡◌, ℕ, zero, suc, ◌<◌, ◌≤◌, min, max, true, List, [], ◌∷◌, ◌++◌, Some, None, Option, sym, refl, ap, ◌∙◌, subst, append-nil, get_or, inl, inr, not-suc-le-zero, arith}
use Rattle.std.specs.List.{Contains}
use Rattle.std.proofs.lemmas.Bool.{cases_eq, cases_order, true≢false, le-leb, cond-true}
use Rattle.std.proofs.lemmas.List.Elements.{All-contains, Contains-from_at, Contains-get_or, Contains-append_left, Contains-append_right, Contains-append_cases}
use Rattle.automaton.specs.Runs.{Dfa}
use Rattle.forest.specs.Codes.{Parents}
use Rattle.forest.specs.Deferment.{Trees, shared, ranked, alone, trees_of, depth_of, parent_of, joined_forest, loose_forest, forest_of}
use Rattle.forest.specs.declared.plan.Plan.{Plan}
use Rattle.forest.specs.Plan.{PlanOf, state_named, placement_in}
use Rattle.forest.specs.Heaviest.{Choice, shared_total, parent_pair, parent_pairs, number_if, parent_in, JoinsHeaviest, HeaviestPlan}
use Rattle.forest.proofs.Shadow.{cases_parent}
use Rattle.forest.proofs.Deferred.{shared_bound, has-ranked, Kept, kept, parent_is, sole_nearer, one_nearer}
use Rattle.forest.proofs.Free.{has_none, has_cases, has_head}
use Rattle.forest.proofs.Exchange.{Subset, joined_most}
use Rattle.forest.proofs.Cycles.{acyclic_free, Once, once_push, bridges_acyclic}
use Rattle.forest.proofs.Ranks.{ranked_falls}

-- two states, the smaller first
abbrev ordered : ℕ → ℕ → ℕ × ℕ
ordered s t = (min s t, max s t)

ordered_is : (s t : ℕ) → s < t → (ordered s t ≡ (s, t)) × (ordered t s ≡ (s, t))
ordered_is s t lt =
    let low : min s t ≡ s = omega arith in
    let high : max s t ≡ t = omega arith in
    let low_back : min t s ≡ s = omega arith in
    let high_back : max t s ≡ t = omega arith in
    (λ i. (low i, high i), λ i. (low_back i, high_back i))

module _ (a : Dfa) (parent : Parents) (is : (s : ℕ) → s < a.states → parent s ≡ parent_of a (trees_of a) s) where
  abbrev trees : Trees
  trees = trees_of a

  abbrev keeps : Kept a trees
  keeps = kept a

  -- the pairs of all states and their parents
  abbrev pairs : List (ℕ × ℕ)
  pairs = parent_pairs parent a.states

  root_pair : (s : ℕ) → s < a.states → parent_of a trees s ≡ None → parent_pair s (parent s) ≡ []
  root_pair s hs e = ap (parent_pair s) (is s hs ∙ e)

  up_pair : (s p : ℕ) → s < a.states → parent_of a trees s ≡ Some p → parent_pair s (parent s) ≡ ordered s p ∷ []
  up_pair s p hs e = ap (parent_pair s) (is s hs ∙ e)

  -- q is the pair of a state below n and its parent
  abbrev Up : ℕ → ℕ × ℕ → Type 0
  Up n q = (s : ℕ) × (s < n) × (p : ℕ) × (parent_of a trees s ≡ Some p) × (ordered s p ≡ q)

  up_below : (n : ℕ) → n ≤ a.states → (q : ℕ × ℕ) → Contains (parent_pairs parent n) q → Up n q
  up_below zero hn q h = absurd (has_none q h)
  up_below (suc s) hn q h = elim (Contains-append_cases (parent_pairs parent s) (parent_pair s (parent s)) q h) [
    | inl k ↦
        let u = up_below s (omega arith) q k in
        (u.0, omega (arith, u.1), u.2, u.3, u.4)
    | inr k ↦ elim (cases_parent (parent_of a trees s)) [
      | inl e ↦ absurd (has_none q (subst (λ (l : List (ℕ × ℕ)). Contains l q) (root_pair s (omega arith) e) k))
      | inr (p, e) ↦ elim (has_cases (ordered s p) [] q (subst (λ (l : List (ℕ × ℕ)). Contains l q) (up_pair s p (omega arith) e) k)) [
        | inl z ↦ (s, omega arith, p, e, z)
        | inr z ↦ absurd (has_none q z)
      ]
    ]
  ]

  has_up : (n s p : ℕ) → n ≤ a.states → s < n → parent_of a trees s ≡ Some p → Contains (parent_pairs parent n) (ordered s p)
  has_up zero s p hn hs e = absurd (not-suc-le-zero hs)
  has_up (suc n) s p hn hs e = elim (cases_eq s n) [
    | inl z ↦
        Contains-append_right (parent_pairs parent n) (parent_pair n (parent n)) (ordered s p)
        (subst (λ (m : ℕ). Contains (parent_pair m (parent m)) (ordered s p)) z
        (subst (λ (l : List (ℕ × ℕ)). Contains l (ordered s p)) (sym (up_pair s p (omega arith) e)) (has_head (ordered s p) [])))
    | inr z ↦ Contains-append_left (parent_pairs parent n) (parent_pair n (parent n)) (ordered s p) (has_up n s p (omega arith) (omega arith) e)
  ]

  -- two states have not one pair: each would be the other's parent
  pairs_differ : (s t p r : ℕ) → t < s → parent_of a trees s ≡ Some p → parent_of a trees t ≡ Some r → ordered t r ≡ ordered s p → ⊥
  pairs_differ s t p r lt es et e =
      let low : min t r ≡ min s p = ap (λ (q : ℕ × ℕ). q.0) e in
      let high : max t r ≡ max s p = ap (λ (q : ℕ × ℕ). q.1) e in
      let pt : p ≡ t = omega arith in
      let rs : r ≡ s = omega arith in
      omega (
        arith,
        (parent_is a trees keeps s p es).2,
        (parent_is a trees keeps t r et).2,
        ap (depth_of a trees) pt,
        ap (depth_of a trees) rs,
      )

  once_below : (n : ℕ) → n ≤ a.states → Once (parent_pairs parent n)
  once_below zero hn = tt
  once_below (suc s) hn =
      let before = once_below s (omega arith) in
      let more : List (ℕ × ℕ) → Type 0 = λ l. Once (parent_pairs parent s ++ l) in
      elim (cases_parent (parent_of a trees s)) [
        | inl e ↦ subst more (sym (root_pair s (omega arith) e)) (subst Once (sym (append-nil (parent_pairs parent s))) before)
        | inr (p, e) ↦
            subst more (sym (up_pair s p (omega arith) e))
            (once_push (parent_pairs parent s) (ordered s p) before (λ h.
            let u = up_below s (omega arith) (ordered s p) h in
            pairs_differ s u.0 p u.2 u.1 e u.3 u.4))
      ]

  -- the pairs are joined, and every joined pair is one of them
  pair_joined : (q : ℕ × ℕ) → Contains pairs q → (q.0 < q.1) × (trees.joined q.0 q.1 ≡ true)
  pair_joined q h =
      let u = up_below a.states (omega arith) q h in
      let s = u.0 in
      let p = u.2 in
      let i = parent_is a trees keeps s p u.3 in
      let holds : ℕ × ℕ → Type 0 = λ r. (r.0 < r.1) × (trees.joined r.0 r.1 ≡ true) in
      elim (cases_order s p) [
        | inl e ↦ absurd (omega (arith, i.2, ap (depth_of a trees) e))
        | inr w ↦ elim w [
          | inl lt ↦ subst holds (sym (ordered_is s p lt).0 ∙ u.4) (lt, i.1)
          | inr lt ↦ subst holds (sym (ordered_is p s lt).1 ∙ u.4) (lt, sym (keeps.either_way s p) ∙ i.1)
        ]
      ]

  joined_pair : (s t : ℕ) → s < t → trees.joined s t ≡ true → Contains pairs (s, t)
  joined_pair s t lt j =
      let c = keeps.close s t j in
      let back : trees.joined t s ≡ true = sym (keeps.either_way s t) ∙ j in
      let is = ordered_is s t lt in
      elim (one_nearer a trees keeps s t j) [
        | inl e ↦ subst (Contains pairs) is.0 (has_up a.states s t (omega arith) (omega arith) (sole_nearer a trees keeps s t j e))
        | inr e ↦ subst (Contains pairs) is.1 (has_up a.states t s (omega arith) (omega arith) (sole_nearer a trees keeps t s back e))
      ]

  choice : Choice a pairs
  choice = record {
    close = λ k d hk.
        let q = get_or pairs k d in
        let l = pair_joined q (Contains-get_or pairs k d hk) in
        let c = keeps.close q.0 q.1 l.1 in
        (l.0, c.1, c.2);
    acyclic = bridges_acyclic trees pairs (once_below a.states (omega arith)) pair_joined keeps.bridge;
  }

  most : (others : List (ℕ × ℕ)) → Choice a others → shared_total a others ≤ shared_total a pairs
  unfolding trees_of
  most others c =
      let turns : Subset others (ranked a 225) = λ q h.
      let close = All-contains (λ p. (p.0 < p.1) × (p.1 < a.states) × (32 ≤ shared a p.0 p.1)) others q c.close h in
      Contains-from_at (ranked a 225) q (has-ranked a q.0 q.1 225 close.0 close.1 close.2 (omega (arith, shared_bound a q.0 q.1))) in
      joined_most a (ranked a 225) others pairs alone (ranked_falls a 225) (λ x y e. absurd (true≢false (sym e))) (acyclic_free others c.acyclic) turns
      (λ q lt j new. joined_pair q.0 q.1 lt j)

  pub joins_heaviest : JoinsHeaviest a pairs
  joins_heaviest = record {
    joined = λ s t lt. (λ h. (pair_joined (s, t) h).1, joined_pair s t lt);
    heaviest = record { choice = choice; most = most };
  }

-- a state by its number has that number
number_back : (o : Option ℕ) → number_if (state_named o) ≡ o
number_back None = refl
number_back (Some s) = refl

-- where its codes have 16 bits or less, the forest's parents are those of the trees
parents_are : (a : Dfa) → (joined_forest a).width ≤ 16 → (s : ℕ) → (forest_of a).parent s ≡ parent_of a (trees_of a) s
unfolding forest_of
parents_are a fits s = ap (λ f. f.parent s) (cond-true _ (joined_forest a) (loose_forest a) (le-leb (joined_forest a).width 16 fits))

-- the parents of a plan are those of its forest
plan_parents : (a : Dfa) (plan : Plan) → PlanOf a plan → (s : ℕ) → s < a.states → parent_in (placement_in plan s) ≡ (forest_of a).parent s
plan_parents a plan of s hs = ap parent_in (of.1.placed s (omega (arith, of.0))) ∙ number_back ((forest_of a).parent s)

pub heaviest_forest : (a : Dfa) → (joined_forest a).width ≤ 16 → JoinsHeaviest a (parent_pairs (forest_of a).parent a.states)
heaviest_forest a fits = joins_heaviest a (forest_of a).parent (λ s hs. parents_are a fits s)

pub heaviest_plan : (a : Dfa) (plan : Plan) → PlanOf a plan → HeaviestPlan a plan
heaviest_plan a plan of fits =
    let parent : Parents = λ s. parent_in (placement_in plan s) in
    subst (λ (n : ℕ). JoinsHeaviest a (parent_pairs parent n)) (sym of.0)
    (joins_heaviest a parent (λ s hs. plan_parents a plan of s hs ∙ parents_are a fits s))
