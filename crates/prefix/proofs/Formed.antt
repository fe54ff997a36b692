-- The emitted words are well formed. Assumes nothing.
use Rattle.std.proofs.Common.{◌≡◌, ℕ, zero, suc, ◌+◌, ◌-◌, ◌*◌, ◌^◌, ◌<◌, ◌≤◌, Bool, true, false, cond, leb, List, [], ◌∷◌, map, arith}
use Rattle.std.specs.List.{AllByRecursion}
use Rattle.std.proofs.ByRecursion.{All-append, All-push}
use Rattle.prefix.specs.Words.{Formed}
use Rattle.prefix.specs.Tree.{Mark, here, halves, closed, has, candidates, base, least, best, emit_under, emit}
use Rattle.prefix.specs.Row.{build, word, shortest}
use Rattle.prefix.proofs.Bytes.{double}
use Rattle.prefix.proofs.Placed.{map-append, map-halves}

module _ {D : Type 0} (unknown : D) where
  -- the bytes whose first bits are v: a prefix that is well formed
  abbrev Prefix : ℕ → ℕ → Type 0
  Prefix h v = (h ≤ 8) × (v < 2 ^ (8 - h))

  -- the two longer prefixes are well formed too
  low_prefix : (h v : ℕ) → Prefix (suc h) v → Prefix h (2 * v) × Prefix h (2 * v + 1)
  low_prefix h v p =
      let e : 8 - h ≡ suc (8 - suc h) = omega arith in
      let k : 2 ^ (8 - h) ≡ 2 ^ (8 - suc h) * 2 = rw e (double (8 - suc h)) in
      omega arith

  formed_here : (h v : ℕ) (e : D) → Prefix h v → Formed (word unknown h v (here e))
  formed_here h v e p = (omega arith, p.1)

  formed_halves : (h v : ℕ) (ls rs : List (Mark D)) → AllByRecursion Formed (map (word unknown h (2 * v)) ls) → AllByRecursion Formed (map (word unknown h (2 * v + 1)) rs) → AllByRecursion Formed (map (word unknown (suc h) v) (halves ls rs))
  formed_halves h v ls rs p q = rw (map-halves unknown h v ls rs) (All-append Formed (map (word unknown h (2 * v)) ls) (map (word unknown h (2 * v + 1)) rs) p q)

  formed_closed : (h v : ℕ) (e : D) (ls rs : List (Mark D)) → Prefix (suc h) v → AllByRecursion Formed (map (word unknown h (2 * v)) ls) → AllByRecursion Formed (map (word unknown h (2 * v + 1)) rs) → AllByRecursion Formed (map (word unknown (suc h) v) (closed e ls rs))
  formed_closed h v e ls rs k p q =
      rw (map-append (word unknown (suc h) v) (halves ls rs) (here e ∷ []))
      (All-push Formed (map (word unknown (suc h) v) (halves ls rs)) (word unknown (suc h) v (here e)) (formed_halves h v ls rs p q) (formed_here (suc h) v e k))

  module _ (same : D → D → Bool) (row : ℕ → D) (deferrable : ℕ → Bool) where
    formed_under : (h v : ℕ) (e : D) → Prefix h v → AllByRecursion Formed (map (word unknown h v) (emit_under same unknown e (build row deferrable h v)))
    formed_under zero v e k = go (same e (row v))
      where
        go : (b : Bool) → AllByRecursion Formed (map (word unknown 0 v) (cond b [] (here (row v) ∷ [])))
        go true = tt
        go false = (formed_here 0 v (row v) k, tt)
    formed_under (suc h) v e k = go (λ c. formed_under h (2 * v) c (low_prefix h v k).0) (λ c. formed_under h (2 * v + 1) c (low_prefix h v k).1) (has same e (candidates same (build row deferrable (suc h) v)))
      where
        go : ((c : D) → AllByRecursion Formed (map (word unknown h (2 * v)) (emit_under same unknown c (build row deferrable h (2 * v)))))
            → ((c : D) → AllByRecursion Formed (map (word unknown h (2 * v + 1)) (emit_under same unknown c (build row deferrable h (2 * v + 1)))))
            → (b : Bool) → AllByRecursion Formed (map (word unknown (suc h) v) (cond b
            (halves (emit_under same unknown e (build row deferrable h (2 * v))) (emit_under same unknown e (build row deferrable h (2 * v + 1))))
            (closed (best same unknown (build row deferrable (suc h) v)) (emit_under same unknown (best same unknown (build row deferrable (suc h) v)) (build row deferrable h (2 * v))) (emit_under same unknown (best same unknown (build row deferrable (suc h) v)) (build row deferrable h (2 * v + 1))))))
        go left right true = formed_halves h v (emit_under same unknown e (build row deferrable h (2 * v))) (emit_under same unknown e (build row deferrable h (2 * v + 1))) (left e) (right e)
        go left right false =
            let c = best same unknown (build row deferrable (suc h) v) in
            formed_closed h v c (emit_under same unknown c (build row deferrable h (2 * v))) (emit_under same unknown c (build row deferrable h (2 * v + 1))) k (left c) (right c)

    formed_emit : (h v : ℕ) → Prefix h v → AllByRecursion Formed (map (word unknown h v) (emit same unknown (build row deferrable h v)))
    formed_emit zero v k = go (deferrable v)
      where
        go : (b : Bool) → AllByRecursion Formed (map (word unknown 0 v) (cond b [] (here (row v) ∷ [])))
        go true = tt
        go false = (formed_here 0 v (row v) k, tt)
    formed_emit (suc h) v k = go (formed_emit h (2 * v) (low_prefix h v k).0) (formed_emit h (2 * v + 1) (low_prefix h v k).1) (leb (least same (build row deferrable h (2 * v)) + least same (build row deferrable h (2 * v + 1))) (base same (build row deferrable (suc h) v) + 1))
      where
        go : AllByRecursion Formed (map (word unknown h (2 * v)) (emit same unknown (build row deferrable h (2 * v))))
            → AllByRecursion Formed (map (word unknown h (2 * v + 1)) (emit same unknown (build row deferrable h (2 * v + 1))))
            → (b : Bool) → AllByRecursion Formed (map (word unknown (suc h) v) (cond b
            (halves (emit same unknown (build row deferrable h (2 * v))) (emit same unknown (build row deferrable h (2 * v + 1))))
            (closed (best same unknown (build row deferrable (suc h) v)) (emit_under same unknown (best same unknown (build row deferrable (suc h) v)) (build row deferrable h (2 * v))) (emit_under same unknown (best same unknown (build row deferrable (suc h) v)) (build row deferrable h (2 * v + 1))))))
        go left right true = formed_halves h v (emit same unknown (build row deferrable h (2 * v))) (emit same unknown (build row deferrable h (2 * v + 1))) left right
        go left right false =
            let c = best same unknown (build row deferrable (suc h) v) in
            formed_closed h v c (emit_under same unknown c (build row deferrable h (2 * v))) (emit_under same unknown c (build row deferrable h (2 * v + 1))) k
            (formed_under h (2 * v) c (low_prefix h v k).0) (formed_under h (2 * v + 1) c (low_prefix h v k).1)

    pub formed_shortest : AllByRecursion Formed (shortest unknown same row deferrable)
    formed_shortest = formed_emit 8 0 (omega arith)
