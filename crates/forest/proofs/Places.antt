-- Rounds from the roots place every state. Assumes nothing.
use Rattle.std.proofs.Common.{◌≡◌, ℕ, zero, suc, ◌+◌, ◌<◌, ◌≤◌, Bool, true, false, cond, not, ◌&&◌, ◌||◌, eqb, ltb, ◌⊎◌, List, [], ◌∷◌, ◌++◌, length, get_or, set, Some, None, Option, sym, refl, ap, ◌∙◌, subst, ap₂, inl, inr, arith, length-set}
use Rattle.std.proofs.lemmas.List.{get_or-set_same, get_or-set_other}
use Rattle.std.proofs.lemmas.Bool.{cases_eq, cases_lt, cases_Bool, and_parts, and_from, lt-ltb, or_left, or_cases, eqb-true, eq-eqb, cond-true, cond-false, true≢false}
use Rattle.std.proofs.Math.Bool.{or_comm}
use Rattle.std.proofs.lemmas.List.Folds.{list_any-append}
use Rattle.std.specs.List.{list_any, range_with_len}
use Rattle.ternary.specs.declared.words.StateNo.{StateNo}
use Rattle.automaton.specs.Runs.{Dfa}
use Rattle.forest.specs.declared.joining.Join.{Join}
use Rattle.forest.specs.declared.joining.Grove.{Grove}
use Rattle.forest.specs.Joining.{trees_in}
use Rattle.forest.specs.declared.placing.Place.{Place}
use Rattle.forest.specs.Plan.{state_named}
use Rattle.forest.specs.Labels.{label, joins, joins_at, Numbered}
use Rattle.forest.specs.Counting.{any}
use Rattle.forest.specs.Deferment.{Trees, trees_of, pair_is, better, is_root, away, depth_of, parent_of}
use Rattle.forest.specs.Placing.{place_of, root_place, stands, is_free, visits, visited, InPlace, Placed, better_in, beaten_in}
use Rattle.forest.proofs.Deferred.{Kept, kept, shallow, depth_away, nearer, next_depth, sole_nearer, root_depth, root_parent}
use Rattle.forest.proofs.Counts.{any_from, any_gives, any_same}

range_more : (a n : ℕ) → range_with_len a (suc n) ≡ range_with_len a n ++ (a + n) ∷ []
range_more a zero = ap (λ (x : ℕ). x ∷ []) (let e : a ≡ a + 0 = omega arith in e)
range_more a (suc n) =
    let e : a + 1 + n ≡ a + suc n = omega arith in
    ap (λ (l : List ℕ). a ∷ l) (range_more (a + 1) n ∙ ap (λ (x : ℕ). range_with_len (a + 1) n ++ x ∷ []) e)

-- a test of a list of the numbers below n
pub any_range : (p : ℕ → Bool) (n : ℕ) → list_any p (range_with_len 0 n) ≡ any p n
any_range p zero = refl
any_range p (suc n) =
    let e : 0 + n ≡ n = omega arith in
    ap (list_any p) (range_more 0 n)
    ∙ (list_any-append p (range_with_len 0 n) ((0 + n) ∷ [])
    ∙ (ap₂ (λ (x : Bool) (k : ℕ). x || (p k || false)) (any_range p n) e
    ∙ (ap (λ (x : Bool). any p n || x) (or_comm (p n) false) ∙ or_comm (any p n) (p n))))

-- ---- what a grove holds

pub pair_self : (s t : ℕ) → pair_is (s, t) s t ≡ true
pair_self s t = or_left (eqb s s && eqb t t) (eqb s t && eqb t s) (and_from (eqb s s) (eqb t t) (eq-eqb s s refl) (eq-eqb t t refl))

-- a join that is kept is of two states that have labels
pub join_inside : (labels : List StateNo) (items : List (Option Join)) → Numbered labels items → (k : ℕ) (j : Join) → get_or items k None ≡ Some j →
    (j.low.0 < length labels) × (j.high.0 < length labels)
join_inside labels items n k j e = n.states k j.low.0 j.high.0 (ap (λ (o : Option Join). joins o j.low.0 j.high.0) e ∙ pair_self j.low.0 j.high.0)

module _ (a : Dfa) (g : Grove) (grown : trees_in g ≡ trees_of a) where
  pub grove_joined : (u v : ℕ) → (trees_of a).joined u v ≡ any (λ i. joins_at g.joins i u v) (length g.joins)
  unfolding trees_in
  grove_joined u v = sym (ap (λ (f : Trees). f.joined u v) grown)

  pub grove_tree : (s : ℕ) → s < length g.labels → label g.labels s ≡ (trees_of a).tree s
  unfolding trees_in
  grove_tree s h = sym (cond-true (ltb s (length g.labels)) (label g.labels s) s (lt-ltb s (length g.labels) h)) ∙ ap (λ (f : Trees). f.tree s) grown

-- ---- one visit

-- of two states that a join connects, one at depth r has placed the other
abbrev pub Done : Dfa → Trees → ℕ → List (Option Place) → Option Join → Type 0
Done a f r places o = (u v : ℕ) → joins o u v ≡ true → depth_of a f u ≡ r → InPlace a f places v

-- a state with no place stands nowhere, and one in its place stands at its depth
stands_right : (a : Dfa) (f : Trees) (r s : ℕ) (o : Option Place) → (o ≡ None) ⊎ (o ≡ Some (place_of a f s)) → stands o r ≡ true → depth_of a f s ≡ r
stands_right a f r s o right e = elim right [
  | inl z ↦ absurd (true≢false (sym e ∙ ap (λ (p : Option Place). stands p r) z))
  | inr z ↦ eqb-true (depth_of a f s) r (sym (ap (λ (p : Option Place). stands p r) z) ∙ e)
]

module _ (a : Dfa) (f : Trees) (k : Kept a f) (r : ℕ) (hr : r < a.states) (places : List (Option Place)) (p : Placed a f r places)
    (s t : StateNo) (j : f.joined s.0 t.0 ≡ true) where
  abbrev below : Option Place
  below = Some (record { depth = r + 1; parent = Some s })

  -- who is visited belongs below s
  visit_right : visits places r s.0 t.0 ≡ true → below ≡ Some (place_of a f t.0)
  visit_right v =
      let c = k.close s.0 t.0 j in
      let parts = and_parts (stands (get_or places s.0 None) r) (is_free (get_or places t.0 None)) v in
      let ds : depth_of a f s.0 ≡ r = stands_right a f r s.0 (get_or places s.0 None) (p.right s.0 c.0) parts.0 in
      let near = next_depth a f k t.0 s.0 c.0 (k.either_way t.0 s.0 ∙ j) in
      let dt : depth_of a f t.0 ≡ suc r = elim (cases_lt r (depth_of a f t.0)) [
        | inl lt ↦ omega (arith, near, ds)
        | inr ge ↦ absurd (true≢false (sym parts.1 ∙ ap is_free (p.full t.0 c.1 ge)))
      ] in
      let pt : parent_of a f t.0 ≡ Some s.0 = sole_nearer a f k t.0 s.0 (k.either_way t.0 s.0 ∙ j) (omega (arith, dt, ds)) in
      sym (ap₂ (λ (d : ℕ) (o : Option ℕ). Some (record { depth = d; parent = state_named o })) (let z : depth_of a f t.0 ≡ r + 1 = omega arith in z) pt)

  in_places : t.0 < length places
  in_places = omega (arith, p.size, (k.close s.0 t.0 j).1)

  -- who is placed stays so
  pub visit_stays : (u : ℕ) → InPlace a f places u → InPlace a f (visited places r s t) u
  visit_stays u e = elim (cases_Bool (visits places r s.0 t.0)) [
    | inr v ↦ ap (λ (b : Bool). get_or (cond b (set places t.0 below) places) u None) v ∙ e
    | inl v ↦
        ap (λ (b : Bool). get_or (cond b (set places t.0 below) places) u None) v
        ∙ (elim (cases_eq u t.0) [
          | inl z ↦
              ap (λ (x : ℕ). get_or (set places t.0 below) x None) z ∙ get_or-set_same places t.0 below None in_places ∙ visit_right v
              ∙ ap (λ (x : ℕ). Some (place_of a f x)) (sym z)
          | inr ne ↦ get_or-set_other places t.0 u below None ne ∙ e
        ])
  ]

  -- after the visit t is placed if s stands at depth r
  pub visit_done : depth_of a f s.0 ≡ r → InPlace a f (visited places r s t) t.0
  visit_done ds =
      let c = k.close s.0 t.0 j in
      elim (p.right t.0 c.1) [
        | inr e ↦ visit_stays t.0 e
        | inl e ↦
            let at_s : stands (get_or places s.0 None) r ≡ true =
            ap (λ (o : Option Place). stands o r) (p.full s.0 c.0 (omega (arith, ds))) ∙ eq-eqb (depth_of a f s.0) r ds in
            let v : visits places r s.0 t.0 ≡ true = and_from (stands (get_or places s.0 None) r) (is_free (get_or places t.0 None)) at_s (ap is_free e) in
            ap (λ (b : Bool). get_or (cond b (set places t.0 below) places) t.0 None) v
            ∙ get_or-set_same places t.0 below None in_places ∙ visit_right v
      ]

  -- a visit keeps what is placed right
  pub visit_keeps : Placed a f r (visited places r s t)
  visit_keeps = record {
    size = elim (cases_Bool (visits places r s.0 t.0)) [
      | inl v ↦ omega (arith, ap (λ (b : Bool). length (cond b (set places t.0 below) places)) v, length-set places t.0 below, p.size)
      | inr v ↦ omega (arith, ap (λ (b : Bool). length (cond b (set places t.0 below) places)) v, p.size)
    ];
    right = λ u hu. elim (p.right u hu) [
      | inr e ↦ inr (visit_stays u e)
      | inl e ↦ elim (cases_Bool (visits places r s.0 t.0)) [
        | inr v ↦ inl (ap (λ (b : Bool). get_or (cond b (set places t.0 below) places) u None) v ∙ e)
        | inl v ↦
            let at = ap (λ (b : Bool). get_or (cond b (set places t.0 below) places) u None) v in
            elim (cases_eq u t.0) [
              | inl z ↦ inr (at ∙ (ap (λ (x : ℕ). get_or (set places t.0 below) x None) z ∙ get_or-set_same places t.0 below None in_places ∙ visit_right v
                  ∙ ap (λ (x : ℕ). Some (place_of a f x)) (sym z)))
              | inr ne ↦ inl (at ∙ (get_or-set_other places t.0 u below None ne ∙ e))
            ]
      ]
    ];
    full = λ u hu d. visit_stays u (p.full u hu d);
  }

-- ---- both visits of a join

module _ (a : Dfa) (items : List (Option Join)) (holds : (u v : ℕ) → (trees_of a).joined u v ≡ any (λ i. joins_at items i u v) (length items)) where
  -- a join that is kept is one of the trees
  is_joined : (i u v : ℕ) → i < length items → joins_at items i u v ≡ true → (trees_of a).joined u v ≡ true
  is_joined i u v hi e = holds u v ∙ any_from (λ n. joins_at items n u v) (length items) i hi e

  module _ (r : ℕ) (hr : r < a.states) (places : List (Option Place)) (p : Placed a (trees_of a) r places)
      (i : ℕ) (hi : i < length items) (done : (k : ℕ) → k < i → Done a (trees_of a) r places (get_or items k None)) where
    -- no join is kept here
    pub none_more : get_or items i None ≡ None → (k : ℕ) → k < i + 1 → Done a (trees_of a) r places (get_or items k None)
    none_more none k hk u v e = elim (cases_eq k i) [
      | inl z ↦ absurd (true≢false (sym e ∙ ap (λ (n : ℕ). joins_at items n u v) z ∙ ap (λ (o : Option Join). joins o u v) none))
      | inr ne ↦ done k (omega arith) u v e
    ]

    module _ (s t : StateNo) (some : get_or items i None ≡ Some (record { low = s; high = t })) where
      abbrev f : Trees
      f = trees_of a

      joined_here : f.joined s.0 t.0 ≡ true
      joined_here = is_joined i s.0 t.0 hi (ap (λ (o : Option Join). joins o s.0 t.0) some ∙ pair_self s.0 t.0)

      joined_back : f.joined t.0 s.0 ≡ true
      joined_back = (kept a).either_way t.0 s.0 ∙ joined_here

      abbrev once : List (Option Place)
      once = visited places r s t

      abbrev twice : List (Option Place)
      twice = visited once r t s

      once_placed : Placed a f r once
      once_placed = visit_keeps a f (kept a) r hr places p s t joined_here

      pub twice_placed : Placed a f r twice
      twice_placed = visit_keeps a f (kept a) r hr once once_placed t s joined_back

      stays : (u : ℕ) → InPlace a f places u → InPlace a f twice u
      stays u e = visit_stays a f (kept a) r hr once once_placed t s joined_back u (visit_stays a f (kept a) r hr places p s t joined_here u e)

      pub join_more : (k : ℕ) → k < i + 1 → Done a f r twice (get_or items k None)
      join_more k hk u v e d = elim (cases_eq k i) [
        | inr ne ↦ stays v (done k (omega arith) u v e d)
        | inl z ↦
            let here : pair_is (s.0, t.0) u v ≡ true = sym (ap (λ (n : ℕ). joins_at items n u v) z ∙ ap (λ (o : Option Join). joins o u v) some) ∙ e in
            elim (or_cases (eqb u s.0 && eqb v t.0) (eqb u t.0 && eqb v s.0) here) [
              | inl to ↦
                  let w = and_parts (eqb u s.0) (eqb v t.0) to in
                  subst (λ (x : ℕ). InPlace a f twice x) (sym (eqb-true v t.0 w.1))
                  (visit_stays a f (kept a) r hr once once_placed t s joined_back t.0
                  (visit_done a f (kept a) r hr places p s t joined_here (ap (depth_of a f) (sym (eqb-true u s.0 w.0)) ∙ d)))
              | inr back ↦
                  let w = and_parts (eqb u t.0) (eqb v s.0) back in
                  subst (λ (x : ℕ). InPlace a f twice x) (sym (eqb-true v s.0 w.1))
                  (visit_done a f (kept a) r hr once once_placed t s joined_back (ap (depth_of a f) (sym (eqb-true u t.0 w.0)) ∙ d))
            ]
      ]

  -- after a round over all joins the states one deeper are placed
  pub round_ends : (r : ℕ) (places : List (Option Place)) → Placed a (trees_of a) r places →
      ((k : ℕ) → k < length items → Done a (trees_of a) r places (get_or items k None)) → Placed a (trees_of a) (r + 1) places
  round_ends r places p done = record {
    size = p.size;
    right = p.right;
    full = λ s hs d. elim (cases_lt r (depth_of a (trees_of a) s)) [
      | inr ge ↦ p.full s hs ge
      | inl lt ↦
          let g = nearer a (trees_of a) (kept a) r s hs (omega arith) in
          let w = any_gives (λ n. joins_at items n g.0 s) (length items) (sym (holds g.0 s) ∙ ((kept a).either_way g.0 s ∙ g.2)) in
          done w.0 w.1 g.0 s w.2 g.3
    ];
  }

-- ---- the roots

not_true : (b : Bool) → not b ≡ true → b ≡ false
not_true true e = sym e
not_true false e = refl

module _ (a : Dfa) (labels : List StateNo) (labelled : (s : ℕ) → s < a.states → label labels s ≡ (trees_of a).tree s) where
  -- the arrays tell the roots
  root_is : (s : ℕ) → s < a.states → not (beaten_in labels a s) ≡ is_root a (trees_of a) s
  root_is s hs =
      ap (λ (b : Bool). not b)
      (any_range (λ t. better_in labels a t s) a.states
      ∙ any_same (λ t. better_in labels a t s) (λ t. eqb ((trees_of a).tree t) ((trees_of a).tree s) && better a t s) a.states
      (λ t ht. ap₂ (λ (x y : ℕ). eqb x y && better a t s) (labelled t ht) (labelled s hs)))

  -- with the roots in their places, and no other state placed, the rounds may begin
  pub roots_placed : (places : List (Option Place)) → a.states ≤ length places →
      ((s : ℕ) → s < a.states → get_or places s None ≡ cond (beaten_in labels a s) None (Some root_place)) → Placed a (trees_of a) 0 places
  roots_placed places long at =
      let f = trees_of a in
      let root : (s : ℕ) → s < a.states → is_root a f s ≡ true → InPlace a f places s =
      λ s hs e.
      let first : beaten_in labels a s ≡ false = not_true (beaten_in labels a s) (root_is s hs ∙ e) in
      at s hs ∙ (cond-false (beaten_in labels a s) None (Some root_place) first
      ∙ sym (ap₂ (λ (d : ℕ) (o : Option ℕ). Some (record { depth = d; parent = state_named o })) (root_depth a f (kept a) s e) (root_parent a f (kept a) s e))) in
      record {
        size = long;
        right = λ s hs. elim (cases_Bool (beaten_in labels a s)) [
          | inl e ↦ inl (at s hs ∙ cond-true (beaten_in labels a s) None (Some root_place) e)
          | inr e ↦ inr (root s hs (sym (root_is s hs) ∙ ap (λ (b : Bool). not b) e))
        ];
        full = λ s hs d.
            let z : depth_of a f s ≡ 0 = omega arith in
            root s hs (subst (λ (i : ℕ). away a f i s ≡ true) z (depth_away a f (kept a) s hs));
      }

-- after as many rounds as there are states every state is in its place
pub all_placed : (a : Dfa) (places : List (Option Place)) (r : ℕ) → a.states ≤ r → Placed a (trees_of a) r places →
    (s : ℕ) → s < a.states → InPlace a (trees_of a) places s
all_placed a places r h p s hs = p.full s hs (omega (arith, shallow a (trees_of a) (kept a) s hs))
