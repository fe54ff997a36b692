-- The joined pairs share at least as many bytes as any free pairs of the list. Assumes nothing.
use Rattle.std.proofs.Common.{◌≡◌, ℕ, ◌+◌, ◌<◌, ◌≤◌, Bool, true, false, cond, List, [], ◌∷◌, sym, ap, ◌∙◌, subst, inl, inr, arith}
use Rattle.std.specs.List.{Contains}
use Rattle.std.proofs.lemmas.Bool.{cases_eq, cases_Bool, true≢false, eq-eqb, ne_eqb, or_left, or_parts}
use Rattle.std.proofs.lemmas.Bool.Decides.{nat_tests}
use Rattle.std.proofs.lemmas.List.Sums.{sum_by-cons}
use Rattle.automaton.specs.Runs.{Dfa}
use Rattle.forest.specs.Deferment.{Trees, shared, pair_is, join, kruskal}
use Rattle.forest.specs.Heaviest.{shared_total}
use Rattle.forest.specs.Joining.{turn}
use Rattle.forest.proofs.Joins.{joined_ways}
use Rattle.forest.proofs.Free.{has_none, has_cases, has_head, has_tail, merge, merge_keeps, merge_joins, merge_least, Free, free_finer, free_apart, exchanged, merge_swap}

-- the bytes that the states of a pair share
abbrev pub bytes : Dfa → ℕ × ℕ → ℕ
bytes a p = shared a p.0 p.1

-- one pair more
total_more : (a : Dfa) (p : ℕ × ℕ) (ps : List (ℕ × ℕ)) → shared_total a (p ∷ ps) ≡ bytes a p + shared_total a ps
total_more a p ps = sum_by-cons (bytes a) p ps

-- all that one list has, the other has too
abbrev pub Subset : List (ℕ × ℕ) → List (ℕ × ℕ) → Type 0
Subset ps qs = (q : ℕ × ℕ) → Contains ps q → Contains qs q

-- some of the pairs, free for the labels g: what is left out shares c bytes at most
record Left (a : Dfa) (g : ℕ → ℕ) (ps : List (ℕ × ℕ)) (c : ℕ) : Type 0 where
  rest : List (ℕ × ℕ)
  free : Free g rest
  within : Subset rest ps
  light : shared_total a ps ≤ c + shared_total a rest

-- once a pair more is joined, free pairs are free but for one of them
exchange : (a : Dfa) (ps : List (ℕ × ℕ)) (g : ℕ → ℕ) (p : ℕ × ℕ) (c : ℕ) → (g p.0 ≡ g p.1 → ⊥) → Free g ps →
    ((q : ℕ × ℕ) → Contains ps q → bytes a q ≤ c) → Left a (merge g p) ps c
exchange a [] g p c ne f h = record { rest = []; free = tt; within = λ q k. k; light = omega arith }
exchange a (q ∷ ps) g p c ne (nq, f) h = elim (cases_eq (merge g p q.0) (merge g p q.1)) [
  | inl e ↦ record {
    rest = ps;
    free = free_finer ps (merge g p) (merge g q) (merge_least g p (merge g q) (merge_keeps g q) (exchanged g p q nq e)) f;
    within = has_tail q ps;
    light = omega (arith, h q (has_head q ps), total_more a q ps);
  }
  | inr n ↦
      let less = exchange a ps (merge g q) p c (λ e. n (exchanged g q p ne e)) f (λ r k. h r (has_tail q ps r k)) in
      record {
        rest = q ∷ less.rest;
        free = (n, free_finer less.rest (merge (merge g p) q) (merge (merge g q) p) (merge_swap g p q) less.free);
        within = λ r k. elim (has_cases q less.rest r k) [
          | inl e ↦ subst (λ (x : ℕ × ℕ). Contains (q ∷ ps) x) e (has_head q ps)
          | inr l ↦ has_tail q ps r (less.within r l)
        ];
        light = omega (arith, less.light, total_more a q ps, total_more a q less.rest);
      }
]

-- a list without one of its pairs
record Without (a : Dfa) (ps : List (ℕ × ℕ)) (p : ℕ × ℕ) : Type 0 where
  rest : List (ℕ × ℕ)
  weighs : shared_total a ps ≡ bytes a p + shared_total a rest
  others : (q : ℕ × ℕ) → Contains ps q → (q ≡ p → ⊥) → Contains rest q

without : (a : Dfa) (ps : List (ℕ × ℕ)) (p : ℕ × ℕ) → Contains ps p → Without a ps p
without a [] p h = absurd (has_none p h)
without a (r ∷ ps) p h = elim (has_cases r ps p h) [
  | inl e ↦ record {
    rest = ps;
    weighs = omega (arith, total_more a r ps, ap (bytes a) e);
    others = λ q k ne. elim (has_cases r ps q k) [
      | inl z ↦ absurd (ne (sym z ∙ e))
      | inr l ↦ l
    ];
  }
  | inr l ↦
      let less = without a ps p l in
      record {
        rest = r ∷ less.rest;
        weighs = omega (arith, less.weighs, total_more a r ps, total_more a r less.rest);
        others = λ q k ne. elim (has_cases r ps q k) [
          | inl z ↦ subst (λ (x : ℕ × ℕ). Contains (r ∷ less.rest) x) z (has_head r less.rest)
          | inr m ↦ has_tail r less.rest q (less.others q m ne)
        ];
      }
]

-- the smaller state first in each pair, and pairs that share more bytes before others
abbrev pub Falling : Dfa → List (ℕ × ℕ) → Type 0
Falling a [] = Unit {0}
Falling a (p ∷ ps) = (p.0 < p.1) × ((q : ℕ × ℕ) → Contains ps q → bytes a q ≤ bytes a p) × Falling a ps

-- joined states stand in one tree
abbrev pub Close : Trees → Type 0
Close f = (x y : ℕ) → f.joined x y ≡ true → f.tree x ≡ f.tree y

module _ (f : Trees) (p : ℕ × ℕ) where
  -- the turn of a pair: it is passed over, or joined
  passes : f.tree p.0 ≡ f.tree p.1 → turn f p ≡ f
  passes e = ap (λ (b : Bool). cond b f (join f p.0 p.1)) (eq-eqb (f.tree p.0) (f.tree p.1) e)

  joins : (f.tree p.0 ≡ f.tree p.1 → ⊥) → turn f p ≡ join f p.0 p.1
  joins ne = ap (λ (b : Bool). cond b f (join f p.0 p.1)) (ne_eqb (f.tree p.0) (f.tree p.1) ne)

  -- what is joined stays joined, and the pair is
  turn_keeps : (s t : ℕ) → f.joined s t ≡ true → (turn f p).joined s t ≡ true
  turn_keeps s t e = elim (cases_eq (f.tree p.0) (f.tree p.1)) [
    | inl k ↦ subst (λ (h : Trees). h.joined s t ≡ true) (sym (passes k)) e
    | inr ne ↦ subst (λ (h : Trees). h.joined s t ≡ true) (sym (joins ne)) (or_left (f.joined s t) (pair_is p s t) e)
  ]

  own_pair : pair_is p p.0 p.1 ≡ true
  own_pair = grind (arith, nat_tests)

  new_pair : (join f p.0 p.1).joined p.0 p.1 ≡ true
  new_pair = grind (arith, nat_tests)

  close_join : Close f → Close (join f p.0 p.1)
  close_join close x y j = elim (joined_ways f p.0 p.1 x y j) [
    | inl o ↦ merge_keeps f.tree p x y (close x y o)
    | inr w ↦ elim w [
      | inl (xp, yq) ↦ ap (merge f.tree p) xp ∙ merge_joins f.tree p ∙ ap (merge f.tree p) (sym yq)
      | inr (xq, yp) ↦ ap (merge f.tree p) xq ∙ sym (merge_joins f.tree p) ∙ ap (merge f.tree p) (sym yp)
    ]
  ]

-- turn after turn
kruskal_keeps : (ps : List (ℕ × ℕ)) (f : Trees) (s t : ℕ) → f.joined s t ≡ true → (kruskal f ps).joined s t ≡ true
kruskal_keeps [] f s t e = e
kruskal_keeps (p ∷ ps) f s t e = kruskal_keeps ps (turn f p) s t (turn_keeps f p s t e)

-- the pair that had its turn is none of those that are free after it
passed : (ps qs : List (ℕ × ℕ)) (g : ℕ → ℕ) (p : ℕ × ℕ) → Free g qs → g p.0 ≡ g p.1 → Subset qs (p ∷ ps) → Subset qs ps
passed ps qs g p f e w q k = elim (has_cases p ps q (w q k)) [
  | inl z ↦ absurd (free_apart qs g q f k (subst (λ (r : ℕ × ℕ). g r.0 ≡ g r.1) z e))
  | inr z ↦ z
]

-- a list has each pair that is joined in the trees h, and was not in f
abbrev HasNew : Trees → Trees → List (ℕ × ℕ) → Type 0
HasNew f h js = (q : ℕ × ℕ) → q.0 < q.1 → h.joined q.0 q.1 ≡ true → f.joined q.0 q.1 ≡ false → Contains js q

-- free pairs of the list share no more bytes than a list that has all the pairs that its turns join
pub joined_most : (a : Dfa) (ps qs js : List (ℕ × ℕ)) (f : Trees) → Falling a ps → Close f → Free f.tree qs → Subset qs ps → HasNew f (kruskal f ps) js →
    shared_total a qs ≤ shared_total a js
joined_most a [] [] js f fall close free w has = omega arith
joined_most a [] (q ∷ qs) js f fall close free w has = absurd (has_none q (w q (has_head q qs)))
joined_most a (p ∷ ps) qs js f (lt, top, fall) close free w has = elim (cases_eq (f.tree p.0) (f.tree p.1)) [
  | inl e ↦ joined_most a ps qs js f fall close free (passed ps qs f.tree p free e w) (subst (λ (h : Trees). HasNew f (kruskal h ps) js) (passes f p e) has)
  | inr ne ↦
      let new = join f p.0 p.1 in
      let news : HasNew f (kruskal new ps) js = subst (λ (h : Trees). HasNew f (kruskal h ps) js) (joins f p ne) has in
      let apart : f.joined p.0 p.1 ≡ false = elim (cases_Bool (f.joined p.0 p.1)) [
        | inl j ↦ absurd (ne (close p.0 p.1 j))
        | inr j ↦ j
      ] in
      let held = without a js p (news p lt (kruskal_keeps ps new p.0 p.1 (new_pair f p)) apart) in
      let bound : (q : ℕ × ℕ) → Contains qs q → bytes a q ≤ bytes a p = λ q k. elim (has_cases p ps q (w q k)) [
        | inl z ↦ omega (arith, ap (bytes a) z)
        | inr z ↦ top q z
      ] in
      let less = exchange a qs f.tree p (bytes a p) ne free bound in
      let more = joined_most a ps less.rest held.rest new fall (close_join f p close) less.free
      (passed ps less.rest (merge f.tree p) p less.free (merge_joins f.tree p) (λ q k. w q (less.within q k)))
      (λ q hq j out.
      let parts = or_parts (f.joined q.0 q.1) (pair_is p q.0 q.1) out in
      held.others q (news q hq j parts.0) (λ e. true≢false (sym (own_pair f p) ∙ subst (λ (r : ℕ × ℕ). pair_is p r.0 r.1 ≡ false) e parts.1))) in
      omega (arith, more, less.light, held.weighs)
]
