-- Parents and depths that agree below n give the same forest there. Assumes nothing.
use Rattle.std.proofs.Common.{◌≡◌, ℕ, zero, suc, ◌+◌, ◌-◌, ◌*◌, ◌^◌, ◌<◌, ◌≤◌, cond, List, length, Some, None, Option, sym, refl, ap, ◌∙◌, subst, ap₂, inl, inr, arith}
use Rattle.forest.specs.Forest.{Forest, code, mask}
use Rattle.forest.specs.Codes.{Parents, same, deferring, bits_for, child_bits, root_bits, number_of, prefix_of, len_of, span_of, width_of, numbered, Rooted}
use Rattle.forest.specs.Deferment.{trees_of, depth_of, parent_of, joined_forest, loose_forest}
use Rattle.automaton.specs.Runs.{Dfa}
use Rattle.forest.specs.declared.placing.Place.{Place}
use Rattle.forest.specs.Plan.{state_named}
use Rattle.forest.specs.Placing.{named, parent_at, depth_at, forest_at, AllInPlace}
use Rattle.forest.proofs.Counts.{count_same_below, most_same_below}
use Rattle.forest.proofs.Shadow.{cases_parent}
use Rattle.forest.proofs.Numbered.{number_root, number_child, prefix_root, prefix_child, len_root, len_child}
use Rattle.forest.proofs.Deferred.{kept, rooted}

module _ (n : ℕ) (old new : Parents) (agree : (s : ℕ) → s < n → old s ≡ new s) (inside : (s p : ℕ) → s < n → old s ≡ Some p → p < n) where
  deferring-same : (o : Option ℕ) (m : ℕ) → m ≤ n → deferring old o m ≡ deferring new o m
  deferring-same o m h = count_same_below (λ t. same (old t) o) (λ t. same (new t) o) m (λ t ht. ap (λ (x : Option ℕ). same x o) (agree t (omega arith)))

  bits_same : (p : ℕ) → child_bits n old p ≡ child_bits n new p
  bits_same p = ap (λ (c : ℕ). bits_for (c + 1)) (deferring-same (Some p) n (omega arith))

  root_bits_same : root_bits n old ≡ root_bits n new
  root_bits_same = ap bits_for (deferring-same None n (omega arith))

  number_same : (s : ℕ) → s < n → number_of old s ≡ number_of new s
  number_same s hs = elim (cases_parent (old s)) [
    | inl e ↦ number_root n old s e ∙ deferring-same None s (omega arith) ∙ sym (number_root n new s (sym (agree s hs) ∙ e))
    | inr (p, e) ↦
        number_child n old s p e ∙ ap (λ (c : ℕ). c + 1) (deferring-same (Some p) s (omega arith))
        ∙ sym (number_child n new s p (sym (agree s hs) ∙ e))
  ]

  len_same : (h s : ℕ) → s < n → len_of h n old s ≡ len_of h n new s
  len_same zero s hs = refl
  len_same (suc h) s hs = elim (cases_parent (old s)) [
    | inl e ↦ len_root n old h s e ∙ root_bits_same ∙ sym (len_root n new h s (sym (agree s hs) ∙ e))
    | inr (p, e) ↦
        len_child n old h s p e ∙ ap₂ (λ (x y : ℕ). x + y) (len_same h p (inside s p hs e)) (bits_same p)
        ∙ sym (len_child n new h s p (sym (agree s hs) ∙ e))
  ]

  prefix_same : (h s : ℕ) → s < n → prefix_of h n old s ≡ prefix_of h n new s
  prefix_same zero s hs = refl
  prefix_same (suc h) s hs = elim (cases_parent (old s)) [
    | inl e ↦ prefix_root n old h s e ∙ number_same s hs ∙ sym (prefix_root n new h s (sym (agree s hs) ∙ e))
    | inr (p, e) ↦
        prefix_child n old h s p e
        ∙ ap₂ (λ (x y : ℕ). x + y) (ap₂ (λ (x y : ℕ). x * 2 ^ y) (prefix_same h p (inside s p hs e)) (bits_same p)) (number_same s hs)
        ∙ sym (prefix_child n new h s p (sym (agree s hs) ∙ e))
  ]

  span_same : (h s : ℕ) → span_of h n old s ≡ span_of h n new s
  span_same zero s = refl
  span_same (suc h) s = ap₂ (λ (x y : ℕ). x + y) (bits_same s)
      (most_same_below (λ t. cond (same (old t) (Some s)) (span_of h n old t) 0) (λ t. cond (same (new t) (Some s)) (span_of h n new t) 0) n
      (λ t ht. ap₂ (λ (x : Option ℕ) (y : ℕ). cond (same x (Some s)) y 0) (agree t ht) (span_same h t)))

  width_same : width_of n old ≡ width_of n new
  width_same = ap₂ (λ (x y : ℕ). x + y) root_bits_same
      (most_same_below (λ t. cond (same (old t) None) (span_of n n old t) 0) (λ t. cond (same (new t) None) (span_of n n new t) 0) n
      (λ t ht. ap₂ (λ (x : Option ℕ) (y : ℕ). cond (same x None) y 0) (agree t ht) (span_same n t)))

-- parents and depths that agree with those of a rooted forest
module _ (n : ℕ) (parent : Parents) (depth : ℕ → ℕ) (r : Rooted n parent depth) (q : Parents) (e : ℕ → ℕ)
    (q_at : (s : ℕ) → s < n → q s ≡ parent s) (e_at : (s : ℕ) → s < n → e s ≡ depth s) where
  agree_in : (s : ℕ) → s < n → parent s ≡ q s
  agree_in s hs = sym (q_at s hs)

  rooted_in : Rooted n q e
  rooted_in = record {
    roots = λ s hs z. e_at s hs ∙ r.roots s hs (agree_in s hs ∙ z);
    inside = λ s p hs z. r.inside s p hs (agree_in s hs ∙ z);
    falls = λ s p hs z.
        let k = agree_in s hs ∙ z in
        e_at s hs ∙ r.falls s p hs k ∙ ap suc (sym (e_at p (r.inside s p hs k)));
    shallow = λ s hs. omega (arith, e_at s hs, r.shallow s hs);
  }

  width_in : width_of n q ≡ width_of n parent
  width_in = sym (width_same n parent q agree_in r.inside)

  len_in : (s : ℕ) → s < n → len_of (suc (e s)) n q s ≡ len_of (suc (depth s)) n parent s
  len_in s hs = ap (λ (d : ℕ). len_of (suc d) n q s) (e_at s hs) ∙ sym (len_same n parent q agree_in r.inside (suc (depth s)) s hs)

  prefix_in : (s : ℕ) → s < n → prefix_of (suc (e s)) n q s ≡ prefix_of (suc (depth s)) n parent s
  prefix_in s hs = ap (λ (d : ℕ). prefix_of (suc d) n q s) (e_at s hs) ∙ sym (prefix_same n parent q agree_in r.inside (suc (depth s)) s hs)

  -- the same, for as many states by another count
  module _ (m : ℕ) (size : m ≡ n) where
    pub rooted_as : Rooted m q e
    rooted_as = subst (λ (k : ℕ). Rooted k q e) (sym size) rooted_in

    pub width_as : width_of m q ≡ width_of n parent
    width_as = ap (λ (k : ℕ). width_of k q) size ∙ width_in

    pub code_as : (s : ℕ) → s < n → code (numbered m q e) s ≡ code (numbered n parent depth) s
    code_as s hs =
        ap (λ (k : ℕ). code (numbered k q e) s) size
        ∙ ap₂ (λ (x y : ℕ). x * 2 ^ y) (prefix_in s hs) (ap₂ (λ (x y : ℕ). x - y) width_in (len_in s hs))

    pub mask_as : (s : ℕ) → s < n → mask (numbered m q e) s ≡ mask (numbered n parent depth) s
    mask_as s hs =
        ap (λ (k : ℕ). mask (numbered k q e) s) size
        ∙ ap₂ (λ (x y : ℕ). 2 ^ x - 2 ^ (x - y)) width_in (len_in s hs)

-- places hold the parent and the depth of each of n states
pub record Holding (n : ℕ) (parent : Parents) (depth : ℕ → ℕ) (places : List Place) : Type 0 where
  pub size : length places ≡ n
  pub depth_is : (s : ℕ) → s < n → depth_at places s ≡ depth s
  pub parent_is : (s : ℕ) → s < n → parent_at places s ≡ parent s

-- they hold those of an automaton's joined states
abbrev pub Found : Dfa → List Place → Type 0
Found a = Holding a.states (parent_of a (trees_of a)) (depth_of a (trees_of a))

-- they hold that every state is a root
abbrev pub Loose : Dfa → List Place → Type 0
Loose a = Holding a.states (λ s. None) (λ s. 0)

-- places describe a forest: its states, which are rooted, its width, codes and masks
pub record Same (f : Forest) (places : List Place) : Type 0 where
  pub size : length places ≡ f.states
  pub rooted : Rooted (length places) (parent_at places) (depth_at places)
  pub width : (forest_at places).width ≡ f.width
  pub codes : (s : ℕ) → s < f.states → code (forest_at places) s ≡ code f s
  pub masks : (s : ℕ) → s < f.states → mask (forest_at places) s ≡ mask f s

same_as : (n : ℕ) (parent : Parents) (depth : ℕ → ℕ) (places : List Place) → Rooted n parent depth → Holding n parent depth places → Same (numbered n parent depth) places
same_as n parent depth places r held = record {
  size = held.size;
  rooted = rooted_as n parent depth r (parent_at places) (depth_at places) held.parent_is held.depth_is (length places) held.size;
  width = width_as n parent depth r (parent_at places) (depth_at places) held.parent_is held.depth_is (length places) held.size;
  codes = code_as n parent depth r (parent_at places) (depth_at places) held.parent_is held.depth_is (length places) held.size;
  masks = mask_as n parent depth r (parent_at places) (depth_at places) held.parent_is held.depth_is (length places) held.size;
}

loose_rooted : (n : ℕ) → Rooted n (λ s. None) (λ s. 0)
loose_rooted n = record {
  roots = λ s hs e. refl;
  inside = λ s p hs e. absurd (let z : ◌≡◌ {A = ℕ} 0 1 = cc in omega arith);
  falls = λ s p hs e. absurd (let z : ◌≡◌ {A = ℕ} 0 1 = cc in omega arith);
  shallow = λ s hs. omega arith;
}

-- places of the joined states describe their forest, and so do places of states that are all roots
pub places_stand : (a : Dfa) (places : List Place) → (Found a places → Same (joined_forest a) places) × (Loose a places → Same (loose_forest a) places)
places_stand a places = (
  λ held. same_as a.states (parent_of a (trees_of a)) (depth_of a (trees_of a)) places (rooted a (trees_of a) (kept a)) held,
  λ held. same_as a.states (λ s. None) (λ s. 0) places (loose_rooted a.states) held,
)

-- the number of a state that is named by a number
unnamed : (o : Option ℕ) → named (state_named o) ≡ o
unnamed None = refl
unnamed (Some s) = refl

-- places of all states of an automaton
module _ (a : Dfa) (places : List Place) (all : AllInPlace a places) where
  pub place_parent : (s : ℕ) → s < a.states → parent_at places s ≡ parent_of a (trees_of a) s
  place_parent s hs = ap (λ (p : Place). named p.parent) (all.1 s hs) ∙ unnamed (parent_of a (trees_of a) s)

  pub place_depth : (s : ℕ) → s < a.states → depth_at places s ≡ depth_of a (trees_of a) s
  place_depth s hs = ap (λ (p : Place). p.depth) (all.1 s hs)

  places_same : Same (joined_forest a) places
  places_same = (places_stand a places).0 (record { size = all.0; depth_is = place_depth; parent_is = place_parent })

  pub places_rooted : Rooted (length places) (parent_at places) (depth_at places)
  places_rooted = places_same.rooted

  pub places_width : (forest_at places).width ≡ (joined_forest a).width
  places_width = places_same.width

  pub places_code : (s : ℕ) → s < a.states → code (forest_at places) s ≡ code (joined_forest a) s
  places_code = places_same.codes

  pub places_mask : (s : ℕ) → s < a.states → mask (forest_at places) s ≡ mask (joined_forest a) s
  places_mask = places_same.masks
