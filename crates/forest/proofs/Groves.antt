-- A grove before and after a join, and the turns of pairs. Assumes nothing.
use Rattle.std.proofs.Common.{◌≡◌, ℕ, zero, suc, ◌+◌, ◌<◌, ◌≤◌, Bool, true, false, cond, ◌&&◌, ◌||◌, eqb, ltb, List, [], ◌∷◌, ◌++◌, length, take, get_or, set, replicate, Some, None, Option, sym, refl, ap, ◌∙◌, ap₂, inl, inr, add-one, arith, length-set}
use Rattle.std.proofs.lemmas.List.{get_or-set_same, get_or-set_other, get_or-replicate, get_or_past, length-replicate}
use Rattle.std.specs.List.{AllByRecursion}
use Rattle.std.proofs.lemmas.Bool.{cases_eq, cases_lt, eq-eqb, ne_eqb, lt-ltb, le-ltb, cond-true, cond-false, true≢false, and_from, and_right}
use Rattle.std.proofs.Math.Bool.{or_comm, or_assoc}
use Rattle.std.proofs.lemmas.Grind.{common_steps}
use Rattle.ternary.specs.declared.words.StateNo.{StateNo}
use Rattle.forest.specs.declared.joining.Join.{Join}
use Rattle.forest.specs.Counting.{any}
use Rattle.automaton.specs.Runs.{Dfa}
use Rattle.forest.specs.Deferment.{Trees, shared, alone, join, kruskal, pairs_of, pairs_below, ranked, pair_is, trees_of}
use Rattle.forest.specs.Labels.{label, joins, joins_at, Numbered, grown}
use Rattle.forest.specs.Joining.{turn, OneTree}
use Rattle.forest.specs.Sharing.{NonePair}
use Rattle.forest.proofs.Counts.{any_same}

-- a test that passes at one number more
any_one_more : (g h : ℕ → Bool) (n i : ℕ) → i < n → g i ≡ false → ((k : ℕ) → (k ≡ i → ⊥) → h k ≡ g k) → any h n ≡ (any g n || h i)
any_one_more g h zero i lt off same = absurd (omega arith)
any_one_more g h (suc n) i lt off same = elim (cases_eq i n) [
  | inl e ↦
      ap₂ (λ (x y : Bool). x || y) (ap h (sym e)) (any_same h g n (λ k hk. same k (λ z. let w : k ≡ n = z ∙ e in omega arith)))
      ∙ (or_comm (h i) (any g n) ∙ ap (λ (x : Bool). (x || any g n) || h i) (sym (ap g (sym e) ∙ off)))
  | inr ne ↦
      ap₂ (λ (x y : Bool). x || y) (same n (λ z. ne (sym z))) (any_one_more g h n i (omega arith) off same)
      ∙ sym (or_assoc (g n) (any g n) (h i))
]

none_any : (p : ℕ → Bool) (n : ℕ) → ((k : ℕ) → k < n → p k ≡ false) → any p n ≡ false
none_any p zero h = refl
none_any p (suc n) h = ap₂ (λ (x y : Bool). x || y) (h n (omega arith)) (none_any p n (λ k l. h k (omega arith)))

-- ---- at first

-- in an array of nothing nothing is found, also past its end
pub none_everywhere : {X : Type 0} (n k : ℕ) → get_or {A = Option X} (replicate n None) k None ≡ None
none_everywhere {X = X} n k = elim (cases_lt k n) [
  | inl h ↦ get_or-replicate n k None None h
  | inr h ↦ get_or_past (replicate n None) k None (omega (arith, length-replicate {A = Option X} n None))
]

module _ (labels : List StateNo) (items : List (Option Join)) (size : length items ≡ length labels)
    (own : (k : ℕ) → k < length labels → label labels k ≡ k) (none : (k : ℕ) → get_or items k None ≡ None) where
  -- states that are trees of their own numbers, with nothing joined
  pub alone_numbered : Numbered labels items
  alone_numbered = record {
    size = size;
    inside = λ k h. omega (arith, own k h);
    used = λ k h. ap (label labels) (own k h);
    free = λ k u v h e. ap (λ (o : Option Join). joins o u v) (none k);
    states = λ i u v e. absurd (true≢false (sym e ∙ ap (λ (o : Option Join). joins o u v) (none i)));
  }

  alone_tree : (u : ℕ) → (grown labels items).tree u ≡ u
  alone_tree u = elim (cases_lt u (length labels)) [
    | inl h ↦ cond-true (ltb u (length labels)) (label labels u) u (lt-ltb u (length labels) h) ∙ own u h
    | inr h ↦ cond-false (ltb u (length labels)) (label labels u) u (le-ltb u (length labels) h)
  ]

  alone_joined : (u v : ℕ) → (grown labels items).joined u v ≡ false
  alone_joined u v = none_any (λ i. joins_at items i u v) (length items) (λ i h. ap (λ (o : Option Join). joins o u v) (none i))

  pub alone_grown : grown labels items ≡ alone
  alone_grown = λ i. record { joined = λ u v. alone_joined u v i; tree = λ u. alone_tree u i }

-- ---- one join

tree_inside : (labels : List StateNo) (items : List (Option Join)) (u : ℕ) → u < length labels → (grown labels items).tree u ≡ label labels u
tree_inside labels items u h = cond-true (ltb u (length labels)) (label labels u) u (lt-ltb u (length labels) h)

tree_outside : (labels : List StateNo) (items : List (Option Join)) (u : ℕ) → length labels ≤ u → (grown labels items).tree u ≡ u
tree_outside labels items u h = cond-false (ltb u (length labels)) (label labels u) u (le-ltb u (length labels) h)

-- the first n labels are one and the same exactly where their states stand in one tree
label_of_all : (labels : List StateNo) (n k first : ℕ) → AllByRecursion (λ l. l.0 ≡ first) (take n labels) → k < n → n ≤ length labels → label labels k ≡ first
label_of_all [] n k first all h room = absurd (omega arith)
label_of_all (l ∷ ls) zero k first all h room = absurd (omega arith)
label_of_all (l ∷ ls) (suc n) zero first all h room = all.0
label_of_all (l ∷ ls) (suc n) (suc k) first all h room = label_of_all ls n k first all.1 (omega arith) (omega arith)

all_of_labels : (labels : List StateNo) (n first : ℕ) → ((k : ℕ) → k < n → label labels k ≡ first) → n ≤ length labels → AllByRecursion (λ l. l.0 ≡ first) (take n labels)
all_of_labels [] zero first each room = tt
all_of_labels [] (suc n) first each room = absurd (omega arith)
all_of_labels (l ∷ ls) zero first each room = tt
all_of_labels (l ∷ ls) (suc n) first each room = (each 0 (omega arith), all_of_labels ls n first (λ k h. each (suc k) (omega arith)) (omega arith))

module _ (labels : List StateNo) (items : List (Option Join)) (n : ℕ) (room : n ≤ length labels) where
  pub one_tree : AllByRecursion (λ l. l.0 ≡ label labels 0) (take n labels) → OneTree (grown labels items) n
  one_tree all k h = tree_inside labels items k (omega arith) ∙ (label_of_all labels n k (label labels 0) all h room ∙ sym (tree_inside labels items 0 (omega arith)))

  pub one_label : OneTree (grown labels items) n → AllByRecursion (λ l. l.0 ≡ label labels 0) (take n labels)
  one_label one = all_of_labels labels n (label labels 0) (λ k h. sym (tree_inside labels items k (omega arith)) ∙ (one k h ∙ tree_inside labels items 0 (omega arith))) room

-- a pair of one tree is passed over
pub passes : (labels : List StateNo) (items : List (Option Join)) (s t : ℕ) → s < length labels → t < length labels → label labels t ≡ label labels s →
    grown labels items ≡ turn (grown labels items) (s, t)
passes labels items s t hs ht e =
    let f = grown labels items in
    let same : f.tree s ≡ f.tree t = tree_inside labels items s hs ∙ (sym e ∙ sym (tree_inside labels items t ht)) in
    sym (cond-true (eqb (f.tree s) (f.tree t)) f (join f s t) (eq-eqb (f.tree s) (f.tree t) same))

-- a pair of two trees is joined
module _ (labels after : List StateNo) (items : List (Option Join)) (s t : StateNo) (hs : s.0 < length labels) (ht : t.0 < length labels)
    (good : Numbered labels items) (long : length after ≡ length labels) (ne : label labels t.0 ≡ label labels s.0 → ⊥)
    (moved : (k : ℕ) → k < length labels → label after k ≡ cond (eqb (label labels k) (label labels t.0)) (label labels s.0) (label labels k)) where
  abbrev ended : ℕ
  ended = label labels t.0

  abbrev kept : List (Option Join)
  kept = set items ended (Some (record { low = s; high = t }))

  ended_in : ended < length items
  ended_in = omega (arith, good.size, good.inside t.0 ht)

  -- what is joined at the ended tree, and at any other place
  here : (u v : ℕ) → joins_at kept ended u v ≡ pair_is (s.0, t.0) u v
  here u v = ap (λ (o : Option Join). joins o u v) (get_or-set_same items ended (Some (record { low = s; high = t })) None ended_in)

  elsewhere : (k u v : ℕ) → (k ≡ ended → ⊥) → joins_at kept k u v ≡ joins_at items k u v
  elsewhere k u v apart = ap (λ (o : Option Join). joins o u v) (get_or-set_other items ended k (Some (record { low = s; high = t })) None apart)

  pub joins_numbered : Numbered after kept
  joins_numbered = record {
    size = grind (arith, common_steps, good.size);
    inside = λ k h. grind (arith, common_steps, moved k, good.inside s.0, good.inside k);
    used = λ k h. grind (arith, common_steps, moved k, moved (label labels k), moved (label labels s.0), good.inside k, good.inside s.0, good.used k, good.used s.0);
    free = λ k u v h own. grind (arith, common_steps, moved k, good.inside s.0, good.used s.0, good.free k u v, elsewhere k u v);
    states = λ i u v e. grind (arith, common_steps, here u v, elsewhere i u v, good.states i u v);
  }

  abbrev before : Trees
  before = grown labels items

  joins_joined : (u v : ℕ) → (grown after kept).joined u v ≡ (join before s.0 t.0).joined u v
  joins_joined u v =
      let g : ℕ → Bool = λ k. joins_at items k u v in
      let h : ℕ → Bool = λ k. joins_at kept k u v in
      let off : g ended ≡ false = good.free ended u v (good.inside t.0 ht) (good.used t.0 ht) in
      ap (any h) (length-set items ended (Some (record { low = s; high = t })))
      ∙ (any_one_more g h (length items) ended ended_in off (λ k apart. elsewhere k u v apart)
      ∙ ap (λ (x : Bool). any g (length items) || x) (here u v))

  joins_tree : (u : ℕ) → (grown after kept).tree u ≡ (join before s.0 t.0).tree u
  joins_tree u =
      let at_s : before.tree s.0 ≡ label labels s.0 = tree_inside labels items s.0 hs in
      let at_t : before.tree t.0 ≡ ended = tree_inside labels items t.0 ht in
      elim (cases_lt u (length labels)) [
        | inl h ↦
            let at_u : before.tree u ≡ label labels u = tree_inside labels items u h in
            tree_inside after kept u (omega (arith, long)) ∙ (moved u h
            ∙ sym (λ i. cond (eqb (at_u i) (at_t i)) (at_s i) (at_u i)))
        | inr h ↦
            let at_u : before.tree u ≡ u = tree_outside labels items u h in
            let apart : before.tree u ≡ before.tree t.0 → ⊥ = λ z. omega (arith, good.inside t.0 ht, z, at_u, at_t) in
            tree_outside after kept u (omega (arith, long))
            ∙ sym (cond-false (eqb (before.tree u) (before.tree t.0)) (before.tree s.0) (before.tree u) (ne_eqb (before.tree u) (before.tree t.0) apart) ∙ at_u)
      ]

  pub joins_grown : grown after kept ≡ turn before (s.0, t.0)
  joins_grown =
      let at_s : before.tree s.0 ≡ label labels s.0 = tree_inside labels items s.0 hs in
      let at_t : before.tree t.0 ≡ ended = tree_inside labels items t.0 ht in
      let apart : before.tree s.0 ≡ before.tree t.0 → ⊥ = λ z. ne (sym at_t ∙ (sym z ∙ at_s)) in
      let joined : grown after kept ≡ join before s.0 t.0 = λ i. record { joined = λ u v. joins_joined u v i; tree = λ u. joins_tree u i } in
      joined ∙ sym (cond-false (eqb (before.tree s.0) (before.tree t.0)) before (join before s.0 t.0) (ne_eqb (before.tree s.0) (before.tree t.0) apart))

-- ---- turns of pairs

kruskal-++ : (f : Trees) (ps qs : List (ℕ × ℕ)) → kruskal f (ps ++ qs) ≡ kruskal (kruskal f ps) qs
kruskal-++ f [] qs = refl
kruskal-++ f (p ∷ ps) qs = kruskal-++ (turn f p) ps qs

one_or_none : (b : Bool) (f : Trees) (p : ℕ × ℕ) → kruskal f (cond b (p ∷ []) []) ≡ cond b (turn f p) f
one_or_none true f p = refl
one_or_none false f p = refl

-- no pair of s has a state below s + 1 as its larger one
no_pairs : (a : Dfa) (c s t : ℕ) → t ≤ s + 1 → pairs_of a c s t ≡ []
no_pairs a c s zero h = refl
no_pairs a c s (suc t) h =
    ap₂ (λ (ps : List (ℕ × ℕ)) (b : Bool). ps ++ cond (b && eqb (shared a s t) c) ((s, t) ∷ []) []) (no_pairs a c s t (omega arith)) (le-ltb s t (omega arith))

pub row_none : (a : Dfa) (f : Trees) (c s : ℕ) → f ≡ kruskal f (pairs_of a c s (s + 1))
row_none a f c s = sym (ap (kruskal f) (no_pairs a c s (s + 1) (omega arith)))

-- t is larger than s and shares c bytes with it
abbrev pair_shares : Dfa → ℕ → ℕ → ℕ → Bool
pair_shares a c s t = ltb s t && eqb (shared a s t) c

-- the turn of the pair (s, t) among the pairs that share c bytes
row_more : (a : Dfa) (f : Trees) (c s t : ℕ) → kruskal f (pairs_of a c s (t + 1)) ≡ cond (pair_shares a c s t) (turn (kruskal f (pairs_of a c s t)) (s, t)) (kruskal f (pairs_of a c s t))
row_more a f c s t =
    ap (λ (k : ℕ). kruskal f (pairs_of a c s k)) (add-one t)
    ∙ (kruskal-++ f (pairs_of a c s t) (cond (pair_shares a c s t) ((s, t) ∷ []) [])
    ∙ one_or_none (pair_shares a c s t) (kruskal f (pairs_of a c s t)) (s, t))

module _ (a : Dfa) (f g : Trees) (c s t : ℕ) (lt : s < t) (so_far : g ≡ kruskal f (pairs_of a c s t)) where
  -- the pair has so many bytes, and takes its turn
  pub row_turn : shared a s t ≡ c → turn g (s, t) ≡ kruskal f (pairs_of a c s (t + 1))
  row_turn e =
      ap (λ (x : Trees). turn x (s, t)) so_far
      ∙ sym (row_more a f c s t ∙ cond-true (pair_shares a c s t) _ _ (and_from (ltb s t) (eqb (shared a s t) c) (lt-ltb s t lt) (eq-eqb (shared a s t) c e)))

  -- it has not
  pub row_skip : (shared a s t ≡ c → ⊥) → g ≡ kruskal f (pairs_of a c s (t + 1))
  row_skip e =
      so_far
      ∙ sym (row_more a f c s t ∙ cond-false (pair_shares a c s t) _ _ (and_right (ltb s t) (eqb (shared a s t) c) (ne_eqb (shared a s t) c e)))

-- where no two states share c bytes, there are no such pairs
none_of : (a : Dfa) (c s t : ℕ) → NonePair a c → t ≤ a.states → pairs_of a c s t ≡ []
none_of a c s zero none h = refl
none_of a c s (suc t) none h =
    let off : pair_shares a c s t ≡ false = elim (cases_lt s t) [
      | inl lt ↦ and_right (ltb s t) (eqb (shared a s t) c) (ne_eqb (shared a s t) c (none s t lt (omega arith)))
      | inr le ↦ ap (λ (b : Bool). b && eqb (shared a s t) c) (le-ltb s t le)
    ] in
    ap₂ (λ (ps : List (ℕ × ℕ)) (b : Bool). ps ++ cond b ((s, t) ∷ []) []) (none_of a c s t none (omega arith)) off

none_below : (a : Dfa) (c n : ℕ) → NonePair a c → pairs_below a c n ≡ []
none_below a c zero none = refl
none_below a c (suc s) none = ap₂ (λ (ps qs : List (ℕ × ℕ)). ps ++ qs) (none_below a c s none) (none_of a c s a.states none (omega arith))

-- then nothing is joined
pub none_joined : (a : Dfa) (f : Trees) (c : ℕ) → NonePair a c → f ≡ kruskal f (pairs_below a c a.states)
none_joined a f c none = sym (ap (kruskal f) (none_below a c a.states none))

either_same : (b : Bool) (f : Trees) → cond b f f ≡ f
either_same true f = refl
either_same false f = refl

-- where all states stand in one tree, their pairs are passed over
module _ (a : Dfa) (f : Trees) (c : ℕ) (one : OneTree f a.states) where
  row_passed : (s t : ℕ) → s < a.states → t ≤ a.states → kruskal f (pairs_of a c s t) ≡ f
  row_passed s zero hs ht = refl
  row_passed s (suc t) hs ht =
      let so_far = row_passed s t hs (omega arith) in
      let same : f.tree s ≡ f.tree t = one s hs ∙ sym (one t (omega arith)) in
      let passed : turn f (s, t) ≡ f = cond-true (eqb (f.tree s) (f.tree t)) f (join f s t) (eq-eqb (f.tree s) (f.tree t) same) in
      ap (λ (k : ℕ). kruskal f (pairs_of a c s k)) (sym (add-one t))
      ∙ row_more a f c s t
      ∙ ap₂ (λ (g h : Trees). cond (pair_shares a c s t) g h) (ap (λ (g : Trees). turn g (s, t)) so_far ∙ passed) so_far
      ∙ either_same (pair_shares a c s t) f

  passed_below : (n : ℕ) → n ≤ a.states → kruskal f (pairs_below a c n) ≡ f
  passed_below zero h = refl
  passed_below (suc s) h =
      kruskal-++ f (pairs_below a c s) (pairs_of a c s a.states)
      ∙ ap (λ (g : Trees). kruskal g (pairs_of a c s a.states)) (passed_below s (omega arith))
      ∙ row_passed s a.states (omega arith) (omega arith)

  pub one_passed : f ≡ kruskal f (pairs_below a c a.states)
  one_passed = sym (passed_below a.states (omega arith))

-- the pairs of the smaller state s among the pairs that share c bytes
pub rows_more : (a : Dfa) (f g : Trees) (c s : ℕ) → g ≡ kruskal f (pairs_below a c s) → kruskal g (pairs_of a c s a.states) ≡ kruskal f (pairs_below a c (s + 1))
rows_more a f g c s so_far =
    ap (λ (x : Trees). kruskal x (pairs_of a c s a.states)) so_far
    ∙ sym (ap (λ (k : ℕ). kruskal f (pairs_below a c k)) (add-one s) ∙ kruskal-++ f (pairs_below a c s) (pairs_of a c s a.states))

-- the pairs that share c bytes have had their turns, and those that share fewer are left
pub ranked_more : (a : Dfa) (f whole : Trees) (k m c : ℕ) → k ≡ suc m → c ≡ 32 + m → kruskal f (ranked a k) ≡ whole → kruskal (kruskal f (pairs_below a c a.states)) (ranked a m) ≡ whole
ranked_more a f whole k m c e bytes left =
    ap (λ (j : ℕ). kruskal (kruskal f (pairs_below a j a.states)) (ranked a m)) bytes
    ∙ (sym (kruskal-++ f (pairs_below a (32 + m) a.states) (ranked a m)) ∙ (ap (λ (j : ℕ). kruskal f (ranked a j)) (sym e) ∙ left))

-- all pairs are left
pub ranked_start : (a : Dfa) (f : Trees) → f ≡ alone → kruskal f (ranked a 225) ≡ trees_of a
unfolding trees_of
ranked_start a f e = ap (λ (g : Trees). kruskal g (ranked a 225)) e

-- no pair is left
pub ranked_end : (a : Dfa) (f whole : Trees) (k : ℕ) → k ≡ 0 → kruskal f (ranked a k) ≡ whole → f ≡ whole
ranked_end a f whole k e left = sym (ap (λ (j : ℕ). kruskal f (ranked a j)) e) ∙ left
