-- The forest of an automaton is well formed, and keeps the rules of deferment. Assumes nothing.
use Rattle.std.proofs.Common.{◌≡◌, ℕ, zero, suc, ◌+◌, ◌^◌, ◌<◌, ◌≤◌, Bool, true, false, cond, ◌&&◌, ◌||◌, eqb, ltb, leb, ◌⊎◌, List, [], ◌∷◌, Some, None, Option, sym, refl, ap, ◌∙◌, subst, ap₂, inl, inr, not-suc-le-zero, arith}
use Rattle.std.proofs.Math.Bool.{or_comm, and_comm}
use Rattle.std.specs.List.{ContainsAt as Has, AllByRecursion}
use Rattle.std.proofs.ByRecursion.{All-append, has_append_left, has_append_right, has_push}
use Rattle.std.proofs.lemmas.Bool.{cases_eq, cases_order, cases_Bool, true≢false, not-true, not_from_false, eqb-true, eq-eqb, ne_eqb, lt-ltb, leb-true, and_parts, and_from, or_cases, cond-true, cond-false}
use Rattle.std.proofs.lemmas.Bool.Decides.{nat_tests}
use Rattle.automaton.specs.Runs.{Dfa}
use Rattle.forest.specs.Counting.{any}
use Rattle.forest.specs.Codes.{Rooted, deferring, bits_for, child_bits, span_of, width_of}
use Rattle.forest.specs.Deferment.{shared, pairs_of, pairs_below, ranked, Trees, alone, join, pair_is, kruskal, trees_of, better, is_root, away, depth_of, parent_of, Walk, stay, step, joined_forest, loose_forest, forest_of}
use Rattle.forest.specs.Forest.{Forest}
use Rattle.forest.specs.Words.{ByteWord}
use Rattle.forest.specs.Table.{ByteRule}
use Rattle.forest.specs.Laws.{Joining, Deferment, Right}
use Rattle.forest.proofs.Formed.{WellFormed, Fitting}
use Rattle.forest.proofs.Shadow.{cases_parent}
use Rattle.forest.proofs.Numbered.{well_formed}
use Rattle.forest.proofs.Accept.{table_stands}
use Rattle.forest.proofs.Counts.{count_past, count_same, count_bound, any_from, any_gives, least_passes, least-most, found_some, found_none, count_none, most_none, bits_least}
use Rattle.forest.proofs.Joins.{Connected, connected_join, tree_moved, tree_kept, Bridge, bridge_join}

-- ---- the pairs

-- a pair to join: two states that share 32 bytes or more
abbrev Pair : Dfa → ℕ × ℕ → Type 0
Pair a p = (p.0 < a.states) × (p.1 < a.states) × (32 ≤ shared a p.0 p.1)

pairs_of_lem : (a : Dfa) (c s n : ℕ) → 32 ≤ c → s < a.states → n ≤ a.states → AllByRecursion (Pair a) (pairs_of a c s n)
pairs_of_lem a c s zero hc hs hn = tt
pairs_of_lem a c s (suc t) hc hs hn =
    All-append (Pair a) (pairs_of a c s t) (cond (ltb s t && eqb (shared a s t) c) ((s, t) ∷ []) [])
    (pairs_of_lem a c s t hc hs (omega arith))
    (elim (cases_Bool (ltb s t && eqb (shared a s t) c)) [
      | inl e ↦
          let k = eqb-true (shared a s t) c (and_parts (ltb s t) (eqb (shared a s t) c) e).1 in
          subst (λ (b : Bool). AllByRecursion (Pair a) (cond b ((s, t) ∷ []) [])) (sym e) ((hs, omega arith, omega (arith, k)), tt)
      | inr e ↦ subst (λ (b : Bool). AllByRecursion (Pair a) (cond b ((s, t) ∷ []) [])) (sym e) tt
    ])

pairs_below_lem : (a : Dfa) (c n : ℕ) → 32 ≤ c → n ≤ a.states → AllByRecursion (Pair a) (pairs_below a c n)
pairs_below_lem a c zero hc hn = tt
pairs_below_lem a c (suc s) hc hn =
    All-append (Pair a) (pairs_below a c s) (pairs_of a c s a.states) (pairs_below_lem a c s hc (omega arith)) (pairs_of_lem a c s a.states hc (omega arith) (omega arith))

pairs_ranked : (a : Dfa) (m : ℕ) → AllByRecursion (Pair a) (ranked a m)
pairs_ranked a zero = tt
pairs_ranked a (suc m) =
    All-append (Pair a) (pairs_below a (32 + m) a.states) (ranked a m) (pairs_below_lem a (32 + m) a.states (omega arith) (omega arith)) (pairs_ranked a m)

-- ---- the joins

eqb_sym : (x y : ℕ) → eqb x y ≡ eqb y x
eqb_sym x y = elim (cases_eq x y) [
  | inl e ↦ eq-eqb x y e ∙ sym (eq-eqb y x (sym e))
  | inr e ↦ ne_eqb x y e ∙ sym (ne_eqb y x (λ k. e (sym k)))
]

pub shared_bound : (a : Dfa) (s t : ℕ) → shared a s t ≤ 256
unfolding shared
shared_bound a s t = count_bound (λ b. eqb (a.next s b) (a.next t b)) 256

pub shared_sym : (a : Dfa) (s t : ℕ) → shared a s t ≡ shared a t s
unfolding shared
shared_sym a s t = count_same (λ b. eqb (a.next s b) (a.next t b)) (λ b. eqb (a.next t b) (a.next s b)) 256 (λ b. eqb_sym (a.next s b) (a.next t b))

-- what the joins keep: trees are connected, a joined pair shares 32 bytes or more, and each is a bridge
pub record Kept (a : Dfa) (f : Trees) : Type 0 where
  pub connected : Connected a.states f
  pub close : (s t : ℕ) → f.joined s t ≡ true → (s < a.states) × (t < a.states) × (32 ≤ shared a s t) × (f.tree s ≡ f.tree t)
  pub bridge : (s t : ℕ) → f.joined s t ≡ true → Bridge f s t
  pub either_way : (s t : ℕ) → f.joined s t ≡ f.joined t s

pair_swap : (p : ℕ × ℕ) (u v : ℕ) → pair_is p u v ≡ pair_is p v u
pair_swap p u v =
    ap₂ (λ (x y : Bool). x || y) (and_comm (eqb u p.0) (eqb v p.1)) (and_comm (eqb u p.1) (eqb v p.0))
    ∙ or_comm (eqb v p.1 && eqb u p.0) (eqb v p.0 && eqb u p.1)

kept_alone : (a : Dfa) → Kept a alone
kept_alone a = record {
  connected = λ s t hs ht e. (0, omega (arith, count_past (λ u. eqb u s) s a.states hs (eq-eqb s s refl)), subst (λ (x : ℕ). Walk a.states alone 0 s x) e stay);
  close = λ s t e. absurd (true≢false (sym e));
  bridge = λ s t e. absurd (true≢false (sym e));
  either_way = λ s t. refl;
}

kept_join : (a : Dfa) (f : Trees) (p : ℕ × ℕ) → Pair a p → (f.tree p.0 ≡ f.tree p.1 → ⊥) → Kept a f → Kept a (join f p.0 p.1)
kept_join a f p hp ne k =
    let s = p.0 in
    let t = p.1 in
    record {
      connected = connected_join a.states f s t ne hp.0 hp.1 k.connected;
      close = λ u v e. elim (or_cases (f.joined u v) ((eqb u s && eqb v t) || (eqb u t && eqb v s)) e) [
        | inl old ↦
            let c = k.close u v old in
            (c.0, c.1, c.2, ap (λ (l : ℕ). cond (eqb l (f.tree t)) (f.tree s) l) c.3)
        | inr new ↦ elim (or_cases (eqb u s && eqb v t) (eqb u t && eqb v s) new) [
          | inl to ↦
              let us = eqb-true u s (and_parts (eqb u s) (eqb v t) to).0 in
              let vt = eqb-true v t (and_parts (eqb u s) (eqb v t) to).1 in (
                omega (arith, us, hp.0),
                omega (arith, vt, hp.1),
                omega (arith, hp.2, ap₂ (shared a) us vt),
                ap (join f s t).tree us ∙ tree_kept a.states f s t s ne ∙ sym (tree_moved a.states f s t t refl) ∙ ap (join f s t).tree (sym vt),
              )
          | inr back ↦
              let ut = eqb-true u t (and_parts (eqb u t) (eqb v s) back).0 in
              let vs = eqb-true v s (and_parts (eqb u t) (eqb v s) back).1 in (
                omega (arith, ut, hp.1),
                omega (arith, vs, hp.0),
                omega (arith, hp.2, ap₂ (shared a) ut vs, shared_sym a s t),
                ap (join f s t).tree ut ∙ tree_moved a.states f s t t refl ∙ sym (tree_kept a.states f s t s ne) ∙ ap (join f s t).tree (sym vs),
              )
        ]
      ];
      bridge = λ u v e. bridge_join f (λ x y j. (k.close x y j).3) k.bridge s t ne u v e;
      either_way = λ u v. ap₂ (λ (x y : Bool). x || y) (k.either_way u v) (pair_swap p u v);
    }

kept_kruskal : (a : Dfa) (ps : List (ℕ × ℕ)) (f : Trees) → AllByRecursion (Pair a) ps → Kept a f → Kept a (kruskal f ps)
kept_kruskal a [] f h k = k
kept_kruskal a (p ∷ ps) f h k =
    kept_kruskal a ps (cond (eqb (f.tree p.0) (f.tree p.1)) f (join f p.0 p.1)) h.1
    (elim (cases_eq (f.tree p.0) (f.tree p.1)) [
      | inl e ↦ subst (λ (b : Bool). Kept a (cond b f (join f p.0 p.1))) (sym (eq-eqb (f.tree p.0) (f.tree p.1) e)) k
      | inr ne ↦ subst (λ (b : Bool). Kept a (cond b f (join f p.0 p.1))) (sym (ne_eqb (f.tree p.0) (f.tree p.1) ne)) (kept_join a f p h.0 ne k)
    ])

-- every pair that shares 32 bytes or more has its turn
has_of : (a : Dfa) (s t n : ℕ) → s < t → t < n → Has (pairs_of a (shared a s t) s n) (s, t)
has_of a s t zero lt hn = absurd (not-suc-le-zero hn)
has_of a s t (suc n) lt hn = elim (cases_eq t n) [
  | inl e ↦
      let yes_one : (ltb s n && eqb (shared a s n) (shared a s t)) ≡ true =
      and_from (ltb s n) (eqb (shared a s n) (shared a s t)) (lt-ltb s n (omega arith)) (eq-eqb (shared a s n) (shared a s t) (ap (shared a s) (sym e))) in
      has_append_right (pairs_of a (shared a s t) s n) (cond (ltb s n && eqb (shared a s n) (shared a s t)) ((s, n) ∷ []) []) (s, t)
      (subst (λ (b : Bool). Has {X = ℕ × ℕ} (cond b ((s, n) ∷ []) []) (s, t)) (sym yes_one)
      (subst (λ (m : ℕ). Has {X = ℕ × ℕ} ((s, m) ∷ []) (s, t)) e (has_push [] (s, t))))
  | inr e ↦
      has_append_left (pairs_of a (shared a s t) s n) (cond (ltb s n && eqb (shared a s n) (shared a s t)) ((s, n) ∷ []) []) (s, t)
      (has_of a s t n lt (omega arith))
]

has_below : (a : Dfa) (s t n : ℕ) → s < t → t < a.states → s < n → Has (pairs_below a (shared a s t) n) (s, t)
has_below a s t zero lt ht hn = absurd (not-suc-le-zero hn)
has_below a s t (suc n) lt ht hn = elim (cases_eq s n) [
  | inl e ↦
      has_append_right (pairs_below a (shared a s t) n) (pairs_of a (shared a s t) n a.states) (s, t)
      (subst (λ (m : ℕ). Has (pairs_of a (shared a s t) m a.states) (s, t)) e (has_of a s t a.states lt ht))
  | inr e ↦
      has_append_left (pairs_below a (shared a s t) n) (pairs_of a (shared a s t) n a.states) (s, t)
      (has_below a s t n lt ht (omega arith))
]

pub has-ranked : (a : Dfa) (s t m : ℕ) → s < t → t < a.states → 32 ≤ shared a s t → shared a s t < 32 + m → Has (ranked a m) (s, t)
has-ranked a s t zero lt ht low high = absurd (omega arith)
has-ranked a s t (suc m) lt ht low high = elim (cases_eq (shared a s t) (32 + m)) [
  | inl e ↦
      has_append_left (pairs_below a (32 + m) a.states) (ranked a m) (s, t)
      (subst (λ (c : ℕ). Has (pairs_below a c a.states) (s, t)) e (has_below a s t a.states lt ht (omega arith)))
  | inr e ↦
      has_append_right (pairs_below a (32 + m) a.states) (ranked a m) (s, t)
      (has-ranked a s t m lt ht low (omega arith))
]

-- after its turn a pair is in one tree, and stays so
one_step : (f : Trees) (p : ℕ × ℕ) → Trees
one_step f p = cond (eqb (f.tree p.0) (f.tree p.1)) f (join f p.0 p.1)

stays_step : (f : Trees) (p : ℕ × ℕ) (s t : ℕ) → f.tree s ≡ f.tree t → (one_step f p).tree s ≡ (one_step f p).tree t
unfolding one_step
stays_step f p s t e = elim (cases_Bool (eqb (f.tree p.0) (f.tree p.1))) [
  | inl z ↦ subst (λ (b : Bool). (cond b f (join f p.0 p.1)).tree s ≡ (cond b f (join f p.0 p.1)).tree t) (sym z) e
  | inr z ↦
      subst (λ (b : Bool). (cond b f (join f p.0 p.1)).tree s ≡ (cond b f (join f p.0 p.1)).tree t) (sym z)
      (ap (λ (l : ℕ). cond (eqb l (f.tree p.1)) (f.tree p.0) l) e)
]

joins_step : (f : Trees) (p : ℕ × ℕ) → (one_step f p).tree p.0 ≡ (one_step f p).tree p.1
unfolding one_step
joins_step f p = elim (cases_eq (f.tree p.0) (f.tree p.1)) [
  | inl e ↦
      subst (λ (b : Bool). (cond b f (join f p.0 p.1)).tree p.0 ≡ (cond b f (join f p.0 p.1)).tree p.1)
      (sym (eq-eqb (f.tree p.0) (f.tree p.1) e)) e
  | inr ne ↦
      subst (λ (b : Bool). (cond b f (join f p.0 p.1)).tree p.0 ≡ (cond b f (join f p.0 p.1)).tree p.1)
      (sym (ne_eqb (f.tree p.0) (f.tree p.1) ne))
      (tree_kept 0 f p.0 p.1 p.0 ne ∙ sym (tree_moved 0 f p.0 p.1 p.1 refl))
]

stays_kruskal : (ps : List (ℕ × ℕ)) (f : Trees) (s t : ℕ) → f.tree s ≡ f.tree t → (kruskal f ps).tree s ≡ (kruskal f ps).tree t
unfolding one_step
stays_kruskal [] f s t e = e
stays_kruskal (p ∷ ps) f s t e = stays_kruskal ps (one_step f p) s t (stays_step f p s t e)

-- the pairs of the list end in one tree
turns_kruskal : (ps : List (ℕ × ℕ)) (f : Trees) (s t : ℕ) → Has ps (s, t) → (kruskal f ps).tree s ≡ (kruskal f ps).tree t
unfolding one_step
turns_kruskal [] f s t h = absurd (not-suc-le-zero h.1)
turns_kruskal (p ∷ ps) f s t (zero, h, e) =
    stays_kruskal ps (one_step f p) s t
    (subst (λ (q : ℕ × ℕ). (one_step f p).tree q.0 ≡ (one_step f p).tree q.1) (e p) (joins_step f p))
turns_kruskal (p ∷ ps) f s t (suc k, h, e) = turns_kruskal ps (one_step f p) s t (k, omega (arith, h), e)

complete : (a : Dfa) (s t : ℕ) → s < t → t < a.states → 32 ≤ shared a s t → (trees_of a).tree s ≡ (trees_of a).tree t
unfolding trees_of
complete a s t lt ht low = turns_kruskal (ranked a 225) alone s t (has-ranked a s t 225 lt ht low (omega (arith, shared_bound a s t)))

pub kept : (a : Dfa) → Kept a (trees_of a)
unfolding trees_of
kept a = kept_kruskal a (ranked a 225) alone (pairs_ranked a 225) (kept_alone a)

-- ---- the roots

-- `better` is an order: no state is better than itself, and what does not beat the old root does not beat a better one
better_self : (a : Dfa) (s : ℕ) → better a s s ≡ false
better_self a s = grind (arith, nat_tests)

better_not : (a : Dfa) (u t s : ℕ) → better a u s ≡ false → better a t s ≡ true → better a u t ≡ false
better_not a u t s h k = grind (arith, nat_tests)

better_total : (a : Dfa) (s t : ℕ) → better a s t ≡ false → better a t s ≡ false → s ≡ t
better_total a s t h k = grind (arith, nat_tests)

-- among the states below m of one tree there is none, or one that no other beats
best_below : (a : Dfa) (f : Trees) (l m : ℕ) →
    ((u : ℕ) → u < m → f.tree u ≡ l → ⊥)
    ⊎ ((r : ℕ) × (r < m) × (f.tree r ≡ l) × ((u : ℕ) → u < m → f.tree u ≡ l → better a u r ≡ false))
best_below a f l zero = inl (λ u hu e. not-suc-le-zero hu)
best_below a f l (suc m) = elim (cases_eq (f.tree m) l) [
  | inl e ↦ elim (best_below a f l m) [
    | inl none ↦ inr (
      m,
      omega arith,
      e,
      λ u hu eu. elim (cases_eq u m) [
        | inl z ↦ ap (λ (x : ℕ). better a x m) z ∙ better_self a m
        | inr z ↦ absurd (none u (omega arith) eu)
      ],
    )
    | inr (r, hr, er, best) ↦ elim (cases_Bool (better a m r)) [
      | inl wins ↦ inr (
        m,
        omega arith,
        e,
        λ u hu eu. elim (cases_eq u m) [
          | inl z ↦ ap (λ (x : ℕ). better a x m) z ∙ better_self a m
          | inr z ↦ better_not a u m r (best u (omega arith) eu) wins
        ],
      )
      | inr loses ↦ inr (
        r,
        omega arith,
        er,
        λ u hu eu. elim (cases_eq u m) [
          | inl z ↦ ap (λ (x : ℕ). better a x r) z ∙ loses
          | inr z ↦ best u (omega arith) eu
        ],
      )
    ]
  ]
  | inr ne ↦ elim (best_below a f l m) [
    | inl none ↦ inl (λ u hu eu. elim (cases_eq u m) [
      | inl z ↦ ne (ap f.tree (sym z) ∙ eu)
      | inr z ↦ none u (omega arith) eu
    ])
    | inr (r, hr, er, best) ↦ inr (
      r,
      omega arith,
      er,
      λ u hu eu. elim (cases_eq u m) [
        | inl z ↦ absurd (ne (ap f.tree (sym z) ∙ eu))
        | inr z ↦ best u (omega arith) eu
      ],
    )
  ]
]

-- every tree has a root
root_of : (a : Dfa) (f : Trees) (s : ℕ) → s < a.states → (r : ℕ) × (r < a.states) × (f.tree r ≡ f.tree s) × (is_root a f r ≡ true)
root_of a f s hs = elim (best_below a f (f.tree s) a.states) [
  | inl none ↦ absurd (none s hs refl)
  | inr (r, hr, er, best) ↦ (
    r,
    hr,
    er,
    not_from_false (any (λ t. eqb (f.tree t) (f.tree r) && better a t r) a.states)
        (elim (cases_Bool (any (λ t. eqb (f.tree t) (f.tree r) && better a t r) a.states)) [
          | inr no_one ↦ no_one
          | inl some ↦
              let g = any_gives (λ t. eqb (f.tree t) (f.tree r) && better a t r) a.states some in
              let ps = and_parts (eqb (f.tree g.0) (f.tree r)) (better a g.0 r) g.2 in
              absurd (true≢false (sym ps.1 ∙ best g.0 g.1 (eqb-true (f.tree g.0) (f.tree r) ps.0 ∙ er)))
        ]),
  )
]

-- ---- the depths and the parents

never : {A : Type 0} {p : ℕ} → ◌≡◌ {A = Option ℕ} None (Some p) → A
never e = let z : ◌≡◌ {A = ℕ} 0 1 = cc in absurd (omega arith)

cases_zero : (n : ℕ) → (n ≡ 0) ⊎ ((m : ℕ) × (n ≡ suc m))
cases_zero zero = inl refl
cases_zero (suc m) = inr (m, refl)

module _ (a : Dfa) (f : Trees) where
  walk_away : (k s r : ℕ) → is_root a f r ≡ true → Walk a.states f k s r → away a f k s ≡ true
  walk_away k s r e stay = e
  walk_away k s r e (step {k = i} {t = t} ht j w) =
      any_from (λ t. f.joined s t && away a f i t) a.states t ht (and_from (f.joined s t) (away a f i t) j (walk_away i t r e w))

  module _ (k : Kept a f) where
    -- every state finds its root
    pub shallow : (s : ℕ) → s < a.states → depth_of a f s < a.states
    shallow s hs =
        let r = root_of a f s hs in
        let w = k.connected s r.0 hs r.1 (sym r.2) in
        omega (arith, w.1, count_bound (λ u. eqb (f.tree u) (f.tree s)) a.states, least-most (λ i. away a f i s) a.states w.0 (walk_away w.0 s r.0 r.3 w.2))

    pub depth_away : (s : ℕ) → s < a.states → away a f (depth_of a f s) s ≡ true
    depth_away s hs = least_passes (λ i. away a f i s) a.states (shallow s hs)

    -- a neighbour is at most one join further
    pub next_depth : (s t : ℕ) → t < a.states → f.joined s t ≡ true → depth_of a f s ≤ suc (depth_of a f t)
    next_depth s t ht j =
        least-most (λ i. away a f i s) a.states (suc (depth_of a f t))
        (any_from (λ u. f.joined s u && away a f (depth_of a f t) u) a.states t ht
        (and_from (f.joined s t) (away a f (depth_of a f t) t) j (depth_away t ht)))

    -- a state that is away from its root has a neighbour that is one join nearer
    pub nearer : (d s : ℕ) → s < a.states → depth_of a f s ≡ suc d → (t : ℕ) × (t < a.states) × (f.joined s t ≡ true) × (depth_of a f t ≡ d)
    nearer d s hs e =
        let here : away a f (suc d) s ≡ true = subst (λ (i : ℕ). away a f i s ≡ true) e (depth_away s hs) in
        let g = any_gives (λ t. f.joined s t && away a f d t) a.states here in
        let t = g.0 in
        let parts = and_parts (f.joined s t) (away a f d t) g.2 in
        let low : depth_of a f t ≤ d = least-most (λ i. away a f i t) a.states d parts.1 in
        let back : away a f (suc (depth_of a f t)) s ≡ true =
        any_from (λ u. f.joined s u && away a f (depth_of a f t) u) a.states t g.1
        (and_from (f.joined s t) (away a f (depth_of a f t) t) parts.0 (depth_away t g.1)) in
        let high : depth_of a f s ≤ suc (depth_of a f t) = least-most (λ i. away a f i s) a.states (suc (depth_of a f t)) back in
        (t, g.1, parts.0, omega (arith, e, low, high))

    -- what a parent is
    pub parent_is : (s p : ℕ) → parent_of a f s ≡ Some p → (p < a.states) × (f.joined s p ≡ true) × (depth_of a f s ≡ suc (depth_of a f p))
    parent_is s p e =
        let g = found_some (λ t. f.joined s t && eqb (suc (depth_of a f t)) (depth_of a f s)) a.states p e in
        let parts = and_parts (f.joined s p) (eqb (suc (depth_of a f p)) (depth_of a f s)) g.1 in
        (g.0, parts.0, sym (eqb-true (suc (depth_of a f p)) (depth_of a f s) parts.1))

    pub no_parent : (s : ℕ) → s < a.states → parent_of a f s ≡ None → depth_of a f s ≡ 0
    no_parent s hs e = elim (cases_zero (depth_of a f s)) [
      | inl z ↦ z
      | inr (d, z) ↦
          let g = nearer d s hs z in
          let t = g.0 in
          let yes_one : (f.joined s t && eqb (suc (depth_of a f t)) (depth_of a f s)) ≡ true =
          and_from (f.joined s t) (eqb (suc (depth_of a f t)) (depth_of a f s)) g.2 (eq-eqb (suc (depth_of a f t)) (depth_of a f s) (ap suc g.3 ∙ sym z)) in
          absurd (true≢false (sym yes_one ∙ found_none (λ t. f.joined s t && eqb (suc (depth_of a f t)) (depth_of a f s)) a.states t e g.1))
    ]

    pub rooted : Rooted a.states (parent_of a f) (depth_of a f)
    rooted = record {
      roots = no_parent;
      inside = λ s p hs e. (parent_is s p e).0;
      falls = λ s p hs e. (parent_is s p e).2;
      shallow = shallow;
    }

    -- the root of a tree is one
    unbeaten : (s t : ℕ) → t < a.states → f.tree s ≡ f.tree t → is_root a f s ≡ true → better a t s ≡ false
    unbeaten s t ht e root = elim (cases_Bool (better a t s)) [
      | inr no_one ↦ no_one
      | inl wins ↦
          let some = any_from (λ u. eqb (f.tree u) (f.tree s) && better a u s) a.states t ht
          (and_from (eqb (f.tree t) (f.tree s)) (better a t s) (eq-eqb (f.tree t) (f.tree s) (sym e)) wins) in
          absurd (true≢false (sym some ∙ not-true (any (λ u. eqb (f.tree u) (f.tree s) && better a u s) a.states) root))
    ]

    sole_root : (s t : ℕ) → s < a.states → t < a.states → f.tree s ≡ f.tree t → is_root a f s ≡ true → is_root a f t ≡ true → s ≡ t
    sole_root s t hs ht e rs rt = better_total a s t (unbeaten t s hs (sym e) rt) (unbeaten s t ht e rs)

    pub root_depth : (s : ℕ) → is_root a f s ≡ true → depth_of a f s ≡ 0
    root_depth s e = omega (arith, least-most (λ i. away a f i s) a.states 0 e)

    pub root_parent : (s : ℕ) → is_root a f s ≡ true → parent_of a f s ≡ None
    root_parent s e = elim (cases_parent (parent_of a f s)) [
      | inl z ↦ z
      | inr (p, z) ↦ absurd (omega (arith, root_depth s e, (parent_is s p z).2))
    ]

    other_parent : (s : ℕ) → s < a.states → is_root a f s ≡ false → (p : ℕ) × (parent_of a f s ≡ Some p)
    other_parent s hs e = elim (cases_parent (parent_of a f s)) [
      | inr q ↦ q
      | inl z ↦
          let r : is_root a f s ≡ true = subst (λ (i : ℕ). away a f i s ≡ true) (no_parent s hs z) (depth_away s hs) in
          absurd (true≢false (sym r ∙ e))
    ]

    -- a joined pair off the path of s to its root leaves the states nearer to the root on the root's side
    module _ (s t r : ℕ) (hr : r < a.states) (root : is_root a f r ≡ true) (sr : f.tree s ≡ f.tree r) (b : Bridge f s t) where
      near_side : (d x : ℕ) → x < a.states → f.tree x ≡ f.tree s → depth_of a f x ≡ d → d < depth_of a f s → b.0 x ≡ b.0 r
      near_side zero x hx ex dx lt =
          let rx : is_root a f x ≡ true = subst (λ (i : ℕ). away a f i x ≡ true) dx (depth_away x hx) in
          ap b.0 (sole_root x r hx hr (ex ∙ sr) rx root)
      near_side (suc d) x hx ex dx lt =
          let g = nearer d x hx dx in
          let y = g.0 in
          b.3 x y g.2 (λ xs yt. omega (arith, ap (depth_of a f) xs, dx, lt)) (λ xt ys. omega (arith, ap (depth_of a f) ys, g.3, lt))
          ∙ near_side d y g.1 (sym (k.close x y g.2).3 ∙ ex) g.3 (omega arith)

    -- at one depth, both states of a joined pair would lie on the root's side
    module _ (s t r : ℕ) (hr : r < a.states) (root : is_root a f r ≡ true) (sr : f.tree s ≡ f.tree r) (b : Bridge f s t) (level : depth_of a f s ≡ depth_of a f t) where
      level_side : (x : ℕ) → x < a.states → f.tree x ≡ f.tree s → depth_of a f x ≡ depth_of a f s → b.0 x ≡ b.0 r
      level_side x hx ex dx = elim (cases_zero (depth_of a f x)) [
        | inl z ↦
            let rx : is_root a f x ≡ true = subst (λ (i : ℕ). away a f i x ≡ true) z (depth_away x hx) in
            ap b.0 (sole_root x r hx hr (ex ∙ sr) rx root)
        | inr (d, z) ↦
            let g = nearer d x hx z in
            let y = g.0 in
            b.3 x y g.2 (λ xs yt. omega (arith, ap (depth_of a f) yt, g.3)) (λ xt ys. omega (arith, ap (depth_of a f) ys, g.3))
            ∙ near_side s t r hr root sr b d y g.1 (sym (k.close x y g.2).3 ∙ ex) g.3 (omega arith)
      ]

    -- so one of two joined states is one step nearer to the root than the other
    pub one_nearer : (s t : ℕ) → f.joined s t ≡ true → (depth_of a f s ≡ suc (depth_of a f t)) ⊎ (depth_of a f t ≡ suc (depth_of a f s))
    one_nearer s t j =
        let c = k.close s t j in
        let b = k.bridge s t j in
        let q = root_of a f s c.0 in
        elim (cases_order (depth_of a f s) (depth_of a f t)) [
          | inl e ↦
              let side_s = level_side s t q.0 q.1 q.3 (sym q.2) b e s c.0 refl refl in
              let side_t = level_side s t q.0 q.1 q.3 (sym q.2) b e t c.1 (sym c.3) (sym e) in
              absurd (true≢false (sym b.1 ∙ side_s ∙ sym side_t ∙ b.2))
          | inr w ↦ elim w [
            | inl lt ↦ inr (omega (arith, next_depth t s c.0 (sym (k.either_way s t) ∙ j)))
            | inr lt ↦ inl (omega (arith, next_depth s t c.1 j))
          ]
        ]

    -- the parent is the only neighbour nearer to the root
    pub sole_nearer : (s t : ℕ) → f.joined s t ≡ true → depth_of a f s ≡ suc (depth_of a f t) → parent_of a f s ≡ Some t
    sole_nearer s t j e =
        let c = k.close s t j in
        let b = k.bridge s t j in
        let q = root_of a f s c.0 in
        elim (cases_parent (parent_of a f s)) [
          | inl z ↦ absurd (omega (arith, no_parent s c.0 z, e))
          | inr (p, z) ↦
              let i = parent_is s p z in
              elim (cases_eq p t) [
                | inl pt ↦ z ∙ ap (λ (x : ℕ). Some x) pt
                | inr pt ↦
                    let side_t = near_side s t q.0 q.1 q.3 (sym q.2) b (depth_of a f t) t c.1 (sym c.3) refl (omega (arith, e)) in
                    let side_p = near_side s t q.0 q.1 q.3 (sym q.2) b (depth_of a f p) p i.0 (sym (k.close s p i.1).3) refl (omega (arith, i.2)) in
                    let side_s = b.3 s p i.1 (λ x y. pt y) (λ x y. omega (arith, e, ap (depth_of a f) x)) in
                    absurd (true≢false (sym b.1 ∙ side_s ∙ side_p ∙ sym side_t ∙ b.2))
              ]
        ]

    deferment : Deferment a f
    deferment = record {
      one_root = sole_root;
      root = λ s hs e. root_parent s e;
      other = other_parent;
      neighbour = λ s p e. let c = parent_is s p e in (c.0, c.1, (k.close s p c.1).3);
      nearer = λ s p e. (parent_is s p e).2;
      sole = sole_nearer;
      shares = λ s p e. (k.close s p (parent_is s p e).1).2;
    }

-- the trees, roots and parents of an automaton keep the rule of deferment
pub deferment_stands : (a : Dfa) → Deferment a (trees_of a)
deferment_stands a = deferment a (trees_of a) (kept a)

-- its states are joined by the rule
pub trees_stand : (a : Dfa) → Joining a (trees_of a)
trees_stand a = record {
  close = (kept a).close;
  connected = λ s t hs ht e. let w = (kept a).connected s t hs ht e in (w.0, omega (arith, w.1, count_bound (λ u. eqb ((trees_of a).tree u) ((trees_of a).tree s)) a.states), w.2);
  complete = complete a;
}

-- ---- the forest

joined_formed : (a : Dfa) → WellFormed (joined_forest a)
joined_formed a = well_formed a.states (parent_of a (trees_of a)) (depth_of a (trees_of a)) (rooted a (trees_of a) (kept a))

loose_formed : (a : Dfa) → WellFormed (loose_forest a)
loose_formed a = well_formed a.states (λ s. None) (λ s. 0) (record {
  roots = λ s hs e. refl;
  inside = λ s p hs e. never e;
  falls = λ s p hs e. never e;
  shallow = λ s hs. omega arith;
})

-- a loose forest needs only the bits of its roots
loose_bits : (n s : ℕ) → child_bits n (λ t. None) s ≡ 0
loose_bits n s = ap (λ (c : ℕ). bits_for (c + 1)) (count_none (λ t. false) n (λ t ht. refl))

loose_span : (h n s : ℕ) → span_of h n (λ t. None) s ≡ 0
loose_span zero n s = refl
loose_span (suc h) n s = omega (arith, loose_bits n s, most_none (λ t. 0) n (λ t. refl))

loose_width : (n : ℕ) → n ≤ 2 ^ 16 → width_of n (λ t. None) ≤ 16
loose_width n h =
    let c : deferring (λ t. None) None n ≤ 2 ^ 16 = omega (arith, count_bound (λ t. true) n) in
    omega (arith, bits_least (deferring (λ t. None) None n) 16 c, most_none (λ t. span_of n n (λ t. None) t) n (loose_span n n))

-- its forest is well formed, and its codes fit 16 bits
pub forest_stands : (a : Dfa) → Fitting a
unfolding forest_of
forest_stands a = elim (cases_Bool (leb (joined_forest a).width 16)) [
  | inl e ↦
      let is : forest_of a ≡ joined_forest a = cond-true (leb (joined_forest a).width 16) (joined_forest a) (loose_forest a) e in
      record {
        states = ap (λ (f : Forest). f.states) is;
        formed = subst (λ (f : Forest). WellFormed f) (sym is) (joined_formed a);
        narrow = λ h. subst (λ (f : Forest). f.width ≤ 16) (sym is) (leb-true (joined_forest a).width 16 e);
      }
  | inr e ↦
      let is : forest_of a ≡ loose_forest a = cond-false (leb (joined_forest a).width 16) (joined_forest a) (loose_forest a) e in
      record {
        states = ap (λ (f : Forest). f.states) is;
        formed = subst (λ (f : Forest). WellFormed f) (sym is) (loose_formed a);
        narrow = λ h. subst (λ (f : Forest). f.width ≤ 16) (sym is) (loose_width a.states h);
      }
]

-- a table over its forest that keeps the byte rule gives every state its right successor
pub automaton_stands : (a : Dfa) (words : ℕ → List ByteWord) → ByteRule a (forest_of a) words → Right a (forest_of a) words
automaton_stands a words rule = table_stands a (forest_of a) words (forest_stands a).formed rule
