-- The first fault of a list of items, found one item at a time.
use Rattle.std.proofs.Common.{◌≡◌, ℕ, ◌+◌, ◌-◌, ◌<◌, ◌≤◌, eqb, leb, Bool, true, false, List, [], ◌∷◌, map, length, get_or, drop, is_some, Some, None, Option, sym, refl, ap, ◌∙◌, arith}
use Rattle.std.specs.List.{range_with_len, AllByRecursion}
use Rattle.std.proofs.lemmas.List.{at_drop_more, at_drop_all}
use Rattle.std.proofs.lemmas.Bool.{true≢false, false≢true, le-leb, leb-true, eq-eqb, eqb-true}
use Rattle.std.proofs.lemmas.List.FromFn.{get_or-map-range_with_len, length-map-range_with_len}
use Rattle.fields.specs.Fields.{long, check, or_else, each_fault, frame_fault}

pub passed : (f next : Option ℕ) → is_some f ≡ false → or_else f next ≡ next
passed None next h = refl
passed (Some at) next h = absurd (true≢false h)

pub stopped : (f next : Option ℕ) → is_some f ≡ true → or_else f next ≡ f
stopped None next h = absurd (false≢true h)
stopped (Some at) next h = refl

-- items in a list, at the place i
module _ {X : Type 0} (fault : ℕ → X → Option ℕ) (step : ℕ) (xs : List X) (at next i : ℕ) (i<n : i < length xs) (on : next ≡ at + step) (r : Option ℕ) (d : X) (e : r ≡ fault at (get_or xs i d)) where
  head : each_fault fault step at (drop i xs) ≡ or_else r (each_fault fault step next (drop (i + 1) xs))
  head =
      at_drop_more (each_fault fault step at) xs i d i<n
      ∙ (ap (λ (f : Option ℕ). or_else f (each_fault fault step (at + step) (drop (i + 1) xs))) (sym e)
      ∙ ap (λ (k : ℕ). or_else r (each_fault fault step k (drop (i + 1) xs))) (sym on))

  pub list_more : is_some r ≡ false → each_fault fault step at (drop i xs) ≡ each_fault fault step next (drop (i + 1) xs)
  list_more ok = head ∙ passed _ _ ok

  pub list_found : is_some r ≡ true → each_fault fault step at (drop i xs) ≡ r
  list_found bad = head ∙ stopped _ _ bad

pub list_all : {X : Type 0} (fault : ℕ → X → Option ℕ) (step : ℕ) (xs : List X) (at i : ℕ) → length xs ≤ i → each_fault fault step at (drop i xs) ≡ None
list_all fault step xs at i h = at_drop_all (each_fault fault step at) xs i h

-- items that are made from their place
module _ {X : Type 0} (fault : ℕ → X → Option ℕ) (step : ℕ) (make : ℕ → X) (n at next i : ℕ) (i<n : i < n) (on : next ≡ at + step) (r : Option ℕ) (e : r ≡ fault at (make i)) where
  within : i < length (map make (range_with_len 0 n))
  within = rw length-map-range_with_len i<n

  is : r ≡ fault at (get_or (map make (range_with_len 0 n)) i (make i))
  is = e ∙ ap (fault at) (sym (get_or-map-range_with_len make 0 n i i (make i) i<n (omega arith)))

  pub each_more : is_some r ≡ false → each_fault fault step at (drop i (map make (range_with_len 0 n))) ≡ each_fault fault step next (drop (i + 1) (map make (range_with_len 0 n)))
  each_more = list_more fault step (map make (range_with_len 0 n)) at next i within on r (make i) is

  pub each_found : is_some r ≡ true → each_fault fault step at (drop i (map make (range_with_len 0 n))) ≡ r
  each_found = list_found fault step (map make (range_with_len 0 n)) at next i within on r (make i) is

pub each_all : {X : Type 0} (fault : ℕ → X → Option ℕ) (step : ℕ) (make : ℕ → X) (n at i : ℕ) → n ≤ i → each_fault fault step at (drop i (map make (range_with_len 0 n))) ≡ None
each_all fault step make n at i h = list_all fault step (map make (range_with_len 0 n)) at i (rw length-map-range_with_len h)

pub both_pass : (f g : Option ℕ) → is_some (or_else f g) ≡ false → (is_some f ≡ false) × (is_some g ≡ false)
both_pass None g h = (refl, h)
both_pass (Some at) g h = absurd (true≢false h)

pub check_pass : (ok : Bool) (at : ℕ) → is_some (check ok at) ≡ false → ok ≡ true
check_pass true at h = refl
check_pass false at h = absurd (true≢false h)

pub none_from : (f : Option ℕ) → is_some f ≡ false → f ≡ None
none_from None h = refl
none_from (Some at) h = cc

pub last_fault : (f : Option ℕ) → or_else f None ≡ f
last_fault None = refl
last_fault (Some at) = refl

-- a rule that is kept lets the reading go on
pub pass : (ok : Bool) (at : ℕ) (next : Option ℕ) → ok ≡ true → or_else (check ok at) next ≡ next
pass true at next h = refl
pass false at next h = absurd (false≢true h)

-- what holds of each item that has no fault
pub each_pass : {X : Type 0} (P : X → Type 0) (f : ℕ → X → Option ℕ) (step : ℕ) → ((at : ℕ) (x : X) → is_some (f at x) ≡ false → P x) → (at : ℕ) (xs : List X) → is_some (each_fault f step at xs) ≡ false → AllByRecursion P xs
each_pass P f step one at [] h = tt
each_pass P f step one at (x ∷ xs) h =
    let parts = both_pass (f at x) (each_fault f step (at + step) xs) h in
    (one at x parts.0, each_pass P f step one (at + step) xs parts.1)

-- the faults of items that are made from others
pub each_made : {X Y : Type 0} (f : ℕ → Y → Option ℕ) (make : X → Y) (step at : ℕ) (xs : List X) → each_fault (λ k x. f k (make x)) step at xs ≡ each_fault f step at (map make xs)
each_made f make step at [] = refl
each_made f make step at (x ∷ xs) = ap (or_else (f at (make x))) (each_made f make step (at + step) xs)

-- what a version and a length with no fault keep
pub record Framed (least : ℕ) (bs : List ℕ) : Type 0 where
  pub room : 5 + least ≤ length bs
  pub version : get_or bs 0 0 ≡ 1
  pub size : long bs 1 ≡ length bs - 5

pub framed : (least : ℕ) (bs : List ℕ) → is_some (frame_fault least bs) ≡ false → Framed least bs
framed least bs h =
    let a = both_pass (check (leb (5 + least) (length bs)) (length bs)) _ h in
    let b = both_pass (check (eqb (get_or bs 0 0) 1) 0) _ a.1 in
    let c = both_pass (check (eqb (long bs 1) (length bs - 5)) 1) None b.1 in
    record {
      room = leb-true (5 + least) (length bs) (check_pass _ _ a.0);
      version = eqb-true (get_or bs 0 0) 1 (check_pass _ _ b.0);
      size = eqb-true (long bs 1) (length bs - 5) (check_pass _ _ c.0);
    }

-- and back
pub frame_passed : (least : ℕ) (bs : List ℕ) (next : Option ℕ) → Framed least bs → or_else (frame_fault least bs) next ≡ next
frame_passed least bs next good =
    ap (λ (f : Option ℕ). or_else f next)
    (pass (leb (5 + least) (length bs)) (length bs) _ (le-leb (5 + least) (length bs) good.room)
    ∙ (pass (eqb (get_or bs 0 0) 1) 0 _ (eq-eqb (get_or bs 0 0) 1 good.version)
    ∙ pass (eqb (long bs 1) (length bs - 5)) 1 None (eq-eqb (long bs 1) (length bs - 5) good.size)))
