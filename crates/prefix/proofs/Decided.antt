-- What holds of every decision of a row holds of every decision of the list that is chosen for it. Assumes nothing.
use Rattle.std.proofs.Common.{ℕ, zero, suc, ◌+◌, ◌*◌, Bool, true, false, cond, eqb, leb, List, [], ◌∷◌, map, get_or}
use Rattle.std.specs.List.{AllByRecursion}
use Rattle.std.proofs.ByRecursion.{All-append}
use Rattle.prefix.specs.Tree.{Tree, leaf, node, Mark, here, low, high, nowhere, least, base, has, common, either, candidates, best, halves, closed, emit_under, emit}
use Rattle.prefix.specs.Row.{build, word}
use Rattle.prefix.specs.Listed.{stated, chosen}

either_way : {X : Type 0} (Q : X → Type 0) (b : Bool) (xs ys : List X) → AllByRecursion Q xs → AllByRecursion Q ys → AllByRecursion Q (cond b xs ys)
either_way Q true xs ys p q = p
either_way Q false xs ys p q = q

module _ (P : ℕ → Type 0) where
  -- it holds at every leaf of a tree
  abbrev Leaves : Tree ℕ → Type 0
  Leaves (leaf f d) = P f
  Leaves (node l r) = Leaves l × Leaves r

  -- it holds of what a mark decides
  abbrev Marked : Mark ℕ → Type 0
  Marked (here e) = P e
  Marked (low m) = Marked m
  Marked (high m) = Marked m
  Marked nowhere = Unit {0}

  all_common : (xs ys : List ℕ) → AllByRecursion P xs → AllByRecursion P (common eqb xs ys)
  all_common [] ys p = tt
  all_common (x ∷ xs) ys p = let rest = all_common xs ys p.1 in either_way P (has eqb x ys) (x ∷ common eqb xs ys) (common eqb xs ys) (p.0, rest) rest

  all_either : (zs xs ys : List ℕ) → AllByRecursion P zs → AllByRecursion P xs → AllByRecursion P ys → AllByRecursion P (either zs xs ys)
  all_either [] xs ys p q r = All-append P xs ys q r
  all_either (z ∷ zs) xs ys p q r = p

  all_candidates : (t : Tree ℕ) → Leaves t → AllByRecursion P (candidates eqb t)
  all_candidates (leaf f d) p = (p, tt)
  all_candidates (node l r) p =
      all_either (common eqb (candidates eqb l) (candidates eqb r)) (candidates eqb l) (candidates eqb r)
      (all_common (candidates eqb l) (candidates eqb r) (all_candidates l p.0)) (all_candidates l p.0) (all_candidates r p.1)

  marked_low : (ms : List (Mark ℕ)) → AllByRecursion Marked ms → AllByRecursion Marked (map low ms)
  marked_low [] p = tt
  marked_low (m ∷ ms) p = (p.0, marked_low ms p.1)

  marked_high : (ms : List (Mark ℕ)) → AllByRecursion Marked ms → AllByRecursion Marked (map high ms)
  marked_high [] p = tt
  marked_high (m ∷ ms) p = (p.0, marked_high ms p.1)

  marked-halves : (ls rs : List (Mark ℕ)) → AllByRecursion Marked ls → AllByRecursion Marked rs → AllByRecursion Marked (halves ls rs)
  marked-halves ls rs p q = All-append Marked (map low ls) (map high rs) (marked_low ls p) (marked_high rs q)

  marked-closed : (e : ℕ) (ls rs : List (Mark ℕ)) → P e → AllByRecursion Marked ls → AllByRecursion Marked rs → AllByRecursion Marked (closed e ls rs)
  marked-closed e ls rs h p q = All-append Marked (halves ls rs) (here e ∷ []) (marked-halves ls rs p q) (h, tt)

  module _ (none : P 0) where
    first_of : (xs : List ℕ) → AllByRecursion P xs → P (get_or xs 0 0)
    first_of [] p = none
    first_of (x ∷ xs) p = p.0

    -- a word that covers the whole tree decides a candidate
    marked_covered : (l r : Tree ℕ) → Leaves (node l r) → (ls rs : List (Mark ℕ)) → AllByRecursion Marked ls → AllByRecursion Marked rs → AllByRecursion Marked (closed (best eqb 0 (node l r)) ls rs)
    marked_covered l r p ls rs q s = marked-closed (best eqb 0 (node l r)) ls rs (first_of (candidates eqb (node l r)) (all_candidates (node l r) p)) q s

    marked-under : (e : ℕ) (t : Tree ℕ) → Leaves t → AllByRecursion Marked (emit_under eqb 0 e t)
    marked-under e (leaf f d) p = either_way Marked (eqb e f) [] (here f ∷ []) tt (p, tt)
    marked-under e (node l r) p =
        let top = best eqb 0 (node l r) in
        either_way Marked (has eqb e (candidates eqb (node l r))) (halves (emit_under eqb 0 e l) (emit_under eqb 0 e r)) (closed top (emit_under eqb 0 top l) (emit_under eqb 0 top r))
        (marked-halves (emit_under eqb 0 e l) (emit_under eqb 0 e r) (marked-under e l p.0) (marked-under e r p.1))
        (marked_covered l r p (emit_under eqb 0 top l) (emit_under eqb 0 top r) (marked-under top l p.0) (marked-under top r p.1))

    marked-emit : (t : Tree ℕ) → Leaves t → AllByRecursion Marked (emit eqb 0 t)
    marked-emit (leaf f d) p = either_way Marked d [] (here f ∷ []) tt (p, tt)
    marked-emit (node l r) p =
        let top = best eqb 0 (node l r) in
        either_way Marked (leb (least eqb l + least eqb r) (base eqb (node l r) + 1)) (halves (emit eqb 0 l) (emit eqb 0 r)) (closed top (emit_under eqb 0 top l) (emit_under eqb 0 top r))
        (marked-halves (emit eqb 0 l) (emit eqb 0 r) (marked-emit l p.0) (marked-emit r p.1))
        (marked_covered l r p (emit_under eqb 0 top l) (emit_under eqb 0 top r) (marked-under top l p.0) (marked-under top r p.1))

    -- a word decides what its mark decides
    word_next : (h v : ℕ) (m : Mark ℕ) → Marked m → P (word 0 h v m).next
    word_next zero v (here e) p = p
    word_next (suc h) v (here e) p = p
    word_next zero v (low m) p = none
    word_next (suc h) v (low m) p = word_next h (2 * v) m p
    word_next zero v (high m) p = none
    word_next (suc h) v (high m) p = word_next h (2 * v + 1) m p
    word_next zero v nowhere p = none
    word_next (suc h) v nowhere p = none

    words_next : (h v : ℕ) (ms : List (Mark ℕ)) → AllByRecursion Marked ms → AllByRecursion (λ w. P w.next.0) (map stated (map (word 0 h v) ms))
    words_next h v [] p = tt
    words_next h v (m ∷ ms) p = (word_next h v m p.0, words_next h v ms p.1)

    leaves : (row : ℕ → ℕ) (deferrable : ℕ → Bool) → ((byte : ℕ) → P (row byte)) → (h v : ℕ) → Leaves (build row deferrable h v)
    leaves row deferrable p zero v = p v
    leaves row deferrable p (suc h) v = (leaves row deferrable p h (2 * v), leaves row deferrable p h (2 * v + 1))

    pub chosen_next : (row : ℕ → ℕ) (deferrable : ℕ → Bool) → ((byte : ℕ) → P (row byte)) → AllByRecursion (λ w. P w.next.0) (chosen row deferrable)
    unfolding chosen
    chosen_next row deferrable p = whole 8
      where
        whole : (h : ℕ) → AllByRecursion (λ w. P w.next.0) (map stated (map (word 0 h 0) (emit eqb 0 (build row deferrable h 0))))
        whole h = words_next h 0 (emit eqb 0 (build row deferrable h 0)) (marked-emit (build row deferrable h 0) (leaves row deferrable p h 0))
