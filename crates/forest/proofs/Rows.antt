-- Counts over the successors of a state, as lists and as places. Assumes nothing.
use Rattle.std.proofs.Common.{◌≡◌, ℕ, zero, suc, ◌+◌, ◌-◌, ◌<◌, ◌≤◌, Bool, List, length, get_or, take, drop, count_by, slice_range, refl, ap, ◌∙◌, ap₂, inl, inr, add-one, sym, arith}
use Rattle.std.proofs.lemmas.Bool.{cases_Bool}
use Rattle.std.proofs.lemmas.List.{get_or-take, get_or-drop, take_all, length-take, length-drop}
use Rattle.std.proofs.lemmas.List.Sums.{count_by_more_yes, count_by_more_no}
use Rattle.std.proofs.lemmas.Slice.Zip.{length-zip, get_or-zip}
use Rattle.std.specs.List.{zip}
use Rattle.forest.specs.Counting.{count}
use Rattle.forest.proofs.Counts.{count_yes, count_no, count_same_below}

-- what is counted in a list is counted over its places
pub count_places : {X : Type 0} (p : X → Bool) (xs : List X) (d : X) (n : ℕ) → n ≤ length xs → count_by p (take n xs) ≡ count (λ k. p (get_or xs k d)) n
count_places p xs d zero h = refl
count_places p xs d (suc n) h =
    let more = ap (λ (k : ℕ). count_by p (take k xs)) (add-one n) in
    let rest = count_places p xs d n (omega arith) in
    elim (cases_Bool (p (get_or xs n d))) [
      | inl e ↦ omega (arith, more, count_by_more_yes p xs n d (omega arith) e, count_yes (λ k. p (get_or xs k d)) n e, rest)
      | inr e ↦ omega (arith, more, count_by_more_no p xs n d (omega arith) e, count_no (λ k. p (get_or xs k d)) n e, rest)
    ]

module _ {X : Type 0} (xs : List X) (a n : ℕ) (fits : a + n ≤ length xs) where
  length_range : length (slice_range xs a (a + n)) ≡ n
  length_range = length-take (a + n - a) (drop a xs) ∙ omega (arith, length-drop a xs)

  range_place : (k : ℕ) (d : X) → k < n → get_or (slice_range xs a (a + n)) k d ≡ get_or xs (a + k) d
  range_place k d h = get_or-take (a + n - a) (drop a xs) k d (omega arith) ∙ get_or-drop a xs k d

  -- what is counted in a cut of a list is counted over its places
  pub count_range : (p : X → Bool) (d : X) → count_by p (slice_range xs a (a + n)) ≡ count (λ k. p (get_or xs (a + k) d)) n
  count_range p d =
      let cut = slice_range xs a (a + n) in
      ap (λ (l : List X). count_by p l) (sym (take_all n cut (omega (arith, length_range))))
      ∙ (count_places p cut d n (omega (arith, length_range))
      ∙ count_same_below (λ k. p (get_or cut k d)) (λ k. p (get_or xs (a + k) d)) n (λ k h. ap p (range_place k d h)))

-- what is counted in two cuts of a list, place by place
pub count_ranges : {X : Type 0} (xs : List X) (a b n : ℕ) → a + n ≤ length xs → b + n ≤ length xs → (p : X × X → Bool) (d : X) →
    count_by p (zip (slice_range xs a (a + n)) (slice_range xs b (b + n))) ≡ count (λ k. p (get_or xs (a + k) d, get_or xs (b + k) d)) n
count_ranges {X = X} xs a b n fits_a fits_b p d =
    let one = slice_range xs a (a + n) in
    let two = slice_range xs b (b + n) in
    let one_long : length one ≡ n = length_range xs a n fits_a in
    let two_long : length two ≡ n = length_range xs b n fits_b in
    let long : length (zip one two) ≡ n = omega (arith, length-zip one two) in
    ap (λ (l : List (X × X)). count_by p l) (sym (take_all n (zip one two) (omega arith)))
    ∙ (count_places p (zip one two) (d, d) n (omega arith)
    ∙ count_same_below (λ k. p (get_or (zip one two) k (d, d))) (λ k. p (get_or xs (a + k) d, get_or xs (b + k) d)) n
    (λ k h. ap p (get_or-zip one two k (d, d) (omega arith) (omega arith) ∙ ap₂ (λ (x y : X). (x, y)) (range_place xs a n fits_a k d h) (range_place xs b n fits_b k d h))))
