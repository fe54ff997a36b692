-- Sums over the states that a state defers to, and counts of the states that defer to one. Assumes nothing.
use Rattle.std.proofs.Common.{◌≡◌, ℕ, zero, suc, ◌+◌, ◌-◌, ◌*◌, ◌^◌, ◌<◌, ◌≤◌, max, List, length, get_or, take, Some, None, Option, sym, refl, ap, ◌∙◌, inl, inr, add-one, arith}
use Rattle.std.specs.List.{count_by, fold}
use Rattle.std.proofs.Math.Seq.{take-length}
use Rattle.std.proofs.lemmas.List.Sums.{fold_more}
use Rattle.forest.specs.Counting.{most}
use Rattle.forest.specs.Forest.{Forest, code}
use Rattle.forest.specs.Arrays.{ForEach, part, sum_up, sum_above}
use Rattle.forest.specs.Held.{held}
use Rattle.forest.specs.declared.codes.Deferment.{Deferment}
use Rattle.forest.specs.Codes.{Parents, same, deferring, child_bits, root_bits, Rooted}
use Rattle.ternary.specs.declared.words.StateNo.{StateNo}
use Rattle.forest.specs.Plan.{state_named}
use Rattle.forest.specs.declared.placing.Place.{Place}
use Rattle.forest.specs.Placing.{named, parent_at, root_place}
use Rattle.forest.proofs.Rows.{count_places}
use Rattle.forest.proofs.Counts.{count_bound, bits_least}
use Rattle.forest.proofs.Arrays.{formed}
use Rattle.forest.proofs.Shadow.{cases_parent}
use Rattle.forest.proofs.Numbered.{len_root, len_step}
use Rattle.forest.proofs.Parts.{code_root, code_child, part_within}

-- of n states, no more than n defer to one, or are roots
pub deferring_bound : (parent : Parents) (o : Option ℕ) (n : ℕ) → deferring parent o n ≤ n
deferring_bound parent o n = count_bound (λ t. same (parent t) o) n

-- 17 bits number the children of any state, and the roots
module _ (n : ℕ) (parent : Parents) (few : n ≤ 65536) where
  pub child_bits_few : (p : ℕ) → child_bits n parent p ≤ 17
  child_bits_few p = bits_least (deferring parent (Some p) n + 1) 17 (omega (arith, deferring_bound parent (Some p) n))

  pub root_bits_few : root_bits n parent ≤ 17
  root_bits_few = bits_least (deferring parent None n) 17 (omega (arith, deferring_bound parent None n))

-- no state is named by none, and a state is named by its number
pub none_named : (o : Option StateNo) → ((s : StateNo) → o ≡ Some s → ⊥) → named o ≡ None
none_named None h = refl
none_named (Some s) h = absurd (h s refl)

pub renamed : (o : Option StateNo) → o ≡ state_named (named o)
renamed None = refl
renamed (Some s) = refl

-- how many of the first n states have this parent, or none
pub counted : (places : List Place) (o : Option ℕ) (n : ℕ) → n ≤ length places → count_by (λ p. same (named p.parent) o) (take n places) ≡ deferring (parent_at places) o n
counted places o n h = count_places (λ p. same (named p.parent) o) places root_place n h

-- sums of amounts over the states that a state of a deferment defers to
none_up : (parent : Parents) (amounts : List ℕ) (h s : ℕ) → parent s ≡ None → sum_up h parent amounts s ≡ 0
none_up parent amounts zero s e = refl
none_up parent amounts (suc h) s e = rw (e, sum_up)

some_up : (parent : Parents) (amounts : List ℕ) (h s p : ℕ) → parent s ≡ Some p → sum_up (suc h) parent amounts s ≡ get_or amounts p 0 + sum_up h parent amounts p
some_up parent amounts h s p e = rw (e, sum_up)

module _ (d : Deferment) (amounts : List ℕ) where
  abbrev f : Forest
  f = held d

  abbrev r : Rooted f.states f.parent f.depth
  r = d.rooted

  pub sum_root : (s : ℕ) → f.parent s ≡ None → sum_above f amounts s ≡ 0
  sum_root s e = none_up f.parent amounts (f.depth s) s e

  pub sum_step : (s p : ℕ) → s < f.states → f.parent s ≡ Some p → sum_above f amounts s ≡ get_or amounts p 0 + sum_above f amounts p
  sum_step s p hs e = ap (λ (h : ℕ). sum_up h f.parent amounts s) (r.falls s p hs e) ∙ some_up f.parent amounts (f.depth p) s p e

  -- what is the base at a root, and grows by the parent's amount, is the base and the sum
  whole : (base : ℕ) (at : ℕ → ℕ) → ((s : ℕ) → s < f.states → f.parent s ≡ None → at s ≡ base) → ((s p : ℕ) → s < f.states → f.parent s ≡ Some p → at s ≡ at p + get_or amounts p 0) →
      (h s : ℕ) → s < f.states → f.depth s ≡ h → base + sum_above f amounts s ≡ at s
  whole base at root step zero s hs k = elim (cases_parent (f.parent s)) [
    | inl e ↦ omega (arith, sum_root s e, root s hs e)
    | inr (p, e) ↦ absurd (omega (arith, r.falls s p hs e))
  ]
  whole base at root step (suc h) s hs k = elim (cases_parent (f.parent s)) [
    | inl e ↦ omega (arith, sum_root s e, root s hs e)
    | inr (p, e) ↦ omega (arith, sum_step s p hs e, step s p hs e, whole base at root step h p (r.inside s p hs e) (omega (arith, r.falls s p hs e)))
  ]

  -- a prefix is as long as the bits of the roots and those of the states that its state defers to
  pub len_sum : ForEach f amounts f.bits → (s : ℕ) → s < f.states → f.root_bits + sum_above f amounts s ≡ f.len s
  len_sum bits s hs = whole f.root_bits f.len
      (λ s hs e. len_root f.states f.parent (f.depth s) s e)
      (λ s p hs e. omega (arith, len_step f.states f.parent f.depth r s p hs e, bits.1 p (r.inside s p hs e)))
      (f.depth s) s hs refl

  -- a code is the sum of the parts of its state and of those that it defers to
  pub code_sum : ForEach f amounts (part f) → (s : ℕ) → s < f.states → get_or amounts s 0 + sum_above f amounts s ≡ code f s
  code_sum parts s hs =
      omega (
        arith,
        parts.1 s hs,
        part_within f (formed d) s hs,
        whole 0 (λ s. code f s - part f s)
            (λ s hs e. omega (arith, code_root f (formed d) s hs e))
            (λ s p hs e. omega (arith, code_child f (formed d) s hs p e, part_within f (formed d) p (r.inside s p hs e), parts.1 p (r.inside s p hs e)))
            (f.depth s) s hs refl,
      )

module _ (d : Deferment) where
  size : (held d).states ≤ 65536
  size = omega (arith, d.few)

  -- 17 bits for each state on the way to the root are enough for a prefix
  len_few : (h s : ℕ) → s < (held d).states → (held d).depth s ≡ h → (held d).len s ≤ 17 * suc h
  len_few zero s hs k = elim (cases_parent ((held d).parent s)) [
    | inl e ↦ omega (arith, len_root (held d).states (held d).parent ((held d).depth s) s e, root_bits_few (held d).states (held d).parent size)
    | inr (p, e) ↦ absurd (omega (arith, d.rooted.falls s p hs e))
  ]
  len_few (suc h) s hs k = elim (cases_parent ((held d).parent s)) [
    | inl e ↦ omega (arith, len_root (held d).states (held d).parent ((held d).depth s) s e, root_bits_few (held d).states (held d).parent size)
    | inr (p, e) ↦
        let r : Rooted (held d).states (held d).parent (held d).depth = d.rooted in
        omega (arith, len_step (held d).states (held d).parent (held d).depth r s p hs e, child_bits_few (held d).states (held d).parent size p, len_few h p (r.inside s p hs e) (omega (arith, r.falls s p hs e)))
  ]

  pub len_small : (s : ℕ) → s < (held d).states → (held d).len s < 2 ^ 32
  len_small s hs = omega (arith, len_few ((held d).depth s) s hs refl, d.rooted.shallow s hs, d.few)

-- the largest of n numbers, as a fold finds it
most_first : (xs : List ℕ) (n : ℕ) → n ≤ length xs → fold max 0 (take n xs) ≡ most (λ k. get_or xs k 0) n
most_first xs zero h = refl
most_first xs (suc n) h = ap (λ (k : ℕ). fold max 0 (take k xs)) (sym (add-one n)) ∙ fold_more max 0 xs n 0 h ∙ ap (λ (m : ℕ). max m (get_or xs n 0)) (most_first xs n (omega arith))

pub most_fold : (xs : List ℕ) (n : ℕ) → length xs ≡ n → fold max 0 xs ≡ most (λ k. get_or xs k 0) n
most_fold xs n long = ap (fold max 0) (sym (take-length xs)) ∙ most_first xs (length xs) (omega arith) ∙ ap (most (λ k. get_or xs k 0)) long
