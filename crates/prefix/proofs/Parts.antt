-- Parts of a list that grows, and what two parts have in common. Assumes nothing.
use Rattle.std.proofs.Common.{◌≡◌, ℕ, suc, ◌+◌, ◌-◌, ◌<◌, ◌≤◌, Bool, true, false, cond, eqb, List, [], ◌∷◌, ◌++◌, length, get_or, take, drop, slice_range, sym, refl, ap, ◌∙◌, append_assoc, add-zero, arith, length-append, length-drop}
use Rattle.std.proofs.lemmas.List.{take_more, get_or-drop, get_or-take, length-take-le, drop-append-le, take-append-le, drop_at, take_all, get_or_append_left}
use Rattle.std.proofs.lemmas.Bool.Decides.{nat_tests}
use Rattle.std.specs.List.{list_any}
use Rattle.prefix.specs.Tree.{has, common}
use Rattle.prefix.specs.declared.sets.Part.{Part}
use Rattle.prefix.specs.Parts.{part_of, Inside}

module _ {X : Type 0} where
  pub length_range : (xs : List X) (a b : ℕ) → b ≤ length xs → length (slice_range xs a b) ≡ b - a
  length_range xs a b h = length-take-le (b - a) (drop a xs) (omega (arith, length-drop a xs))

  -- one element more
  pub range_more : (xs : List X) (a i : ℕ) (d : X) → a ≤ i → i < length xs → slice_range xs a (i + 1) ≡ slice_range xs a i ++ get_or xs i d ∷ []
  range_more xs a i d h k =
      let e : i + 1 - a ≡ i - a + 1 = omega arith in
      let at : a + (i - a) ≡ i = omega arith in
      ap (λ n. take n (drop a xs)) e
      ∙ (take_more (drop a xs) (i - a) d (omega (arith, length-drop a xs))
      ∙ ap (λ x. take (i - a) (drop a xs) ++ x ∷ []) (get_or-drop a xs (i - a) d ∙ ap (λ n. get_or xs n d) at))

  -- the first element
  pub range_first : (xs : List X) (a b : ℕ) (d : X) → a < b → get_or xs a d ≡ get_or (slice_range xs a b) 0 d
  range_first xs a b d h = sym (get_or-take (b - a) (drop a xs) 0 d (omega arith) ∙ (get_or-drop a xs 0 d ∙ ap (λ n. get_or xs n d) (add-zero a)))

  -- what is appended changes no part before it
  pub range_kept : (xs ys : List X) (a b : ℕ) → a ≤ b → b ≤ length xs → slice_range (xs ++ ys) a b ≡ slice_range xs a b
  range_kept xs ys a b h k =
      ap (take (b - a)) (drop-append-le a xs ys (omega arith)) ∙ take-append-le (b - a) (drop a xs) ys (omega (arith, length-drop a xs))

  -- and is a part itself
  pub range_last : (xs ys : List X) → slice_range (xs ++ ys) (length xs) (length (xs ++ ys)) ≡ ys
  range_last xs ys =
      ap (take (length (xs ++ ys) - length xs)) (drop_at xs ys (length xs) refl) ∙ take_all (length (xs ++ ys) - length xs) ys (omega (arith, length-append xs ys))

eqb_flip : (a b : ℕ) → eqb a b ≡ eqb b a
eqb_flip a b = grind (arith, nat_tests)

-- the test of the code and that of the definitions
pub has-from_any : (x : ℕ) (ys : List ℕ) → list_any (λ y. eqb y x) ys ≡ has eqb x ys
has-from_any x [] = refl
has-from_any x (y ∷ ys) = cc (eqb_flip y x, has-from_any x ys)

pub common≤ : (xs ys : List ℕ) → length (common eqb xs ys) ≤ length xs
common≤ [] ys = omega arith
common≤ (x ∷ xs) ys = go (has eqb x ys) (common≤ xs ys)
  where
    go : (b : Bool) → length (common eqb xs ys) ≤ length xs → length (cond b (x ∷ common eqb xs ys) (common eqb xs ys)) ≤ suc (length xs)
    go true h = omega arith
    go false h = omega arith

-- one element more
pub common_more : (xs ys : List ℕ) (x : ℕ) → common eqb (xs ++ x ∷ []) ys ≡ common eqb xs ys ++ cond (has eqb x ys) (x ∷ []) []
common_more [] ys x = refl
common_more (z ∷ xs) ys x = go (has eqb z ys) (common_more xs ys x)
  where
    go : (b : Bool) → common eqb (xs ++ x ∷ []) ys ≡ common eqb xs ys ++ cond (has eqb x ys) (x ∷ []) []
        → cond b (z ∷ common eqb (xs ++ x ∷ []) ys) (common eqb (xs ++ x ∷ []) ys) ≡ cond b (z ∷ common eqb xs ys) (common eqb xs ys) ++ cond (has eqb x ys) (x ∷ []) []
    go true h = ap (λ zs. z ∷ zs) h
    go false h = h

-- a step of the loops that append: the list holds what it held before and what is appended so far
module _ (before now more : List ℕ) (a i x : ℕ) (h : a ≤ i) (k : i < length before) (so_far : now ≡ before ++ more) (read : x ≡ get_or now i 0) where
  reads : x ≡ get_or before i 0
  reads = read ∙ (ap (λ zs. get_or zs i 0) so_far ∙ get_or_append_left before more 0 i k)

  pub part_step : more ≡ slice_range before a i → now ++ x ∷ [] ≡ before ++ slice_range before a (i + 1)
  part_step e =
      ap (λ zs. zs ++ x ∷ []) (so_far ∙ ap (λ zs. before ++ zs) e)
      ∙ (append_assoc before (slice_range before a i) (x ∷ [])
      ∙ ap (λ zs. before ++ zs) (ap (λ z. slice_range before a i ++ z ∷ []) reads ∙ sym (range_more before a i 0 h k)))

  pub common_step : (p : Part) → Inside (length before) p → more ≡ common eqb (slice_range before a i) (part_of before p)
      → (ys : List ℕ) → ys ≡ part_of now p → (b : Bool) → has eqb x ys ≡ b
      → now ++ cond b (x ∷ []) [] ≡ before ++ common eqb (slice_range before a (i + 1)) (part_of before p)
  common_step p inside e ys same b test =
      let kept : ys ≡ part_of before p = same ∙ (ap (λ zs. part_of zs p) so_far ∙ range_kept before more p.first p.end inside.0 inside.1) in
      let has_is : b ≡ has eqb x (part_of before p) = sym test ∙ ap (λ zs. has eqb x zs) kept in
      let xs = slice_range before a i in
      let high = part_of before p in
      let one_more : common eqb (slice_range before a (i + 1)) high ≡ common eqb xs high ++ cond b (x ∷ []) [] =
      ap (λ zs. common eqb zs high) (range_more before a i 0 h k ∙ ap (λ z. xs ++ z ∷ []) (sym reads))
      ∙ (common_more xs high x ∙ ap (λ t. common eqb xs high ++ cond t (x ∷ []) []) (sym has_is)) in
      ap (λ zs. zs ++ cond b (x ∷ []) []) (so_far ∙ ap (λ zs. before ++ zs) e)
      ∙ (append_assoc before (common eqb xs high) (cond b (x ∷ []) []) ∙ ap (λ zs. before ++ zs) (sym one_more))
