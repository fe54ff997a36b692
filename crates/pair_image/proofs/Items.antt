-- Items that are made from their place, read one by one.
use Rattle.std.proofs.Common.{◌≡◌, ℕ, zero, suc, ◌+◌, ◌<◌, List, [], ◌∷◌, map, length, drop, Some, None, Option, sym, refl, ap, ◌∙◌, arith, ⊎_elim, MatchOption}
use Rattle.std.specs.List.{slice_get, range_with_len}
use Rattle.std.specs.Option.{option_map}
use Rattle.std.proofs.lemmas.List.FromFn.{get_or-map-range_with_len, length-map-range_with_len}
use Rattle.std.proofs.lemmas.Option.{slice_get-get_or, slice_get_within, get_or_from_slice_get, slice_get_cases}
use Rattle.std.proofs.lemmas.List.{drop_more, at_drop_all}

-- the item at a place
pub nth_made : {X : Type 0} (make : ℕ → X) (n i : ℕ) → i < length (map make (range_with_len 0 n)) → slice_get (map make (range_with_len 0 n)) i ≡ Some (make i)
nth_made make n i h =
    let long = length-map-range_with_len make 0 n in
    slice_get-get_or (map make (range_with_len 0 n)) i (make i) h ∙ ap Some (get_or-map-range_with_len make 0 n i i (make i) (omega arith) (omega arith))

-- the item of a mapped list at a place
pub nth_map : {X Y : Type 0} (f : X → Y) (xs : List X) (i : ℕ) → slice_get (map f xs) i ≡ option_map f (slice_get xs i)
nth_map f [] i = refl
nth_map f (x ∷ xs) zero = refl
nth_map f (x ∷ xs) (suc i) = nth_map f xs i

-- what is left of a list from a place on: the item there and what is left behind it, or nothing
pub left_more : {X : Type 0} (xs : List X) (i : ℕ) (x : X) → slice_get xs i ≡ Some x → drop i xs ≡ x ∷ drop (i + 1) xs
left_more xs i x e = drop_more xs i x (slice_get_within xs i x e) ∙ ap (λ y. y ∷ drop (i + 1) xs) (get_or_from_slice_get xs i x x e)

some_none : {X : Type 0} (x : X) → ◌≡◌ {A = Option X} (Some x) None → ⊥
some_none x e = let z : ◌≡◌ {A = ℕ} 0 1 = cc in omega arith

pub left_none : {X : Type 0} (xs : List X) (i : ℕ) → slice_get xs i ≡ None → drop i xs ≡ []
left_none xs i e =
    ⊎_elim (λ h. absurd (some_none h.0 (sym h.2 ∙ e))) (λ h. at_drop_all (λ l. l) xs i h.0) (slice_get_cases xs i).1

-- an answer of nothing, where nothing is left
pub ended : {X : Type 0} (r : Option X) (left : List X) (P : X → Type 0) → r ≡ None → left ≡ [] → MatchOption r ((left ≡ []) × (left ≡ [])) P
ended None left P e gone = (gone, gone)
ended (Some x) left P e gone = absurd (some_none x e)
