-- The ranked pairs: the smaller state first, and more shared bytes first. Assumes nothing.
use Rattle.std.proofs.Common.{◌≡◌, ℕ, zero, suc, ◌+◌, ◌<◌, Bool, ◌&&◌, cond, eqb, ltb, List, [], ◌∷◌, ◌++◌, subst, inl, inr, arith}
use Rattle.std.specs.List.{Contains}
use Rattle.std.proofs.lemmas.Bool.{cases_Bool, ltb-true, eqb-true, and_parts}
use Rattle.std.proofs.lemmas.List.Elements.{Contains-append_cases}
use Rattle.automaton.specs.Runs.{Dfa}
use Rattle.forest.specs.Deferment.{shared, pairs_of, pairs_below, ranked}
use Rattle.forest.proofs.Free.{has_none, has_cases, has_head, has_tail}
use Rattle.forest.proofs.Exchange.{bytes, Falling}

module _ (a : Dfa) where
  -- two states that share c bytes, the smaller first
  abbrev Sharing : ℕ → ℕ × ℕ → Type 0
  Sharing c p = (p.0 < p.1) × (bytes a p ≡ c)

  in_of : (c s n : ℕ) (q : ℕ × ℕ) → Contains (pairs_of a c s n) q → Sharing c q
  in_of c s zero q h = absurd (has_none q h)
  in_of c s (suc t) q h = elim (Contains-append_cases (pairs_of a c s t) (cond (ltb s t && eqb (shared a s t) c) ((s, t) ∷ []) []) q h) [
    | inl k ↦ in_of c s t q k
    | inr k ↦ elim (cases_Bool (ltb s t && eqb (shared a s t) c)) [
      | inl e ↦
          let parts = and_parts (ltb s t) (eqb (shared a s t) c) e in
          elim (has_cases (s, t) [] q (subst (λ (b : Bool). Contains {X = ℕ × ℕ} (cond b ((s, t) ∷ []) []) q) e k)) [
            | inl z ↦ subst (Sharing c) z (ltb-true s t parts.0, eqb-true (shared a s t) c parts.1)
            | inr z ↦ absurd (has_none q z)
          ]
      | inr e ↦ absurd (has_none q (subst (λ (b : Bool). Contains {X = ℕ × ℕ} (cond b ((s, t) ∷ []) []) q) e k))
    ]
  ]

  in_below : (c n : ℕ) (q : ℕ × ℕ) → Contains (pairs_below a c n) q → Sharing c q
  in_below c zero q h = absurd (has_none q h)
  in_below c (suc s) q h = elim (Contains-append_cases (pairs_below a c s) (pairs_of a c s a.states) q h) [
    | inl k ↦ in_below c s q k
    | inr k ↦ in_of c s a.states q k
  ]

  -- those that come later share fewer bytes
  in_ranked : (m : ℕ) (q : ℕ × ℕ) → Contains (ranked a m) q → bytes a q < 32 + m
  in_ranked zero q h = absurd (has_none q h)
  in_ranked (suc m) q h = elim (Contains-append_cases (pairs_below a (32 + m) a.states) (ranked a m) q h) [
    | inl k ↦ omega (arith, (in_below (32 + m) a.states q k).1)
    | inr k ↦ omega (arith, in_ranked m q k)
  ]

  falling_append : (c : ℕ) (ps qs : List (ℕ × ℕ)) → ((q : ℕ × ℕ) → Contains ps q → Sharing c q) → ((q : ℕ × ℕ) → Contains qs q → bytes a q < c) → Falling a qs → Falling a (ps ++ qs)
  falling_append c [] qs same low fall = fall
  falling_append c (p ∷ ps) qs same low fall =
      let here = same p (has_head p ps) in (
        here.0,
        λ q h. elim (Contains-append_cases ps qs q h) [
          | inl k ↦ omega (arith, here.1, (same q (has_tail p ps q k)).1)
          | inr k ↦ omega (arith, here.1, low q k)
        ],
        falling_append c ps qs (λ q h. same q (has_tail p ps q h)) low fall,
      )

  pub ranked_falls : (m : ℕ) → Falling a (ranked a m)
  ranked_falls zero = tt
  ranked_falls (suc m) = falling_append (32 + m) (pairs_below a (32 + m) a.states) (ranked a m) (in_below (32 + m) a.states) (in_ranked m) (ranked_falls m)
