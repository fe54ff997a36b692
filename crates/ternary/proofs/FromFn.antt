-- What `array::from_fn` makes of a closure that leaves alone what it captures.
use Rattle.std.proofs.Common.{◌≡◌, ℕ, zero, suc, ◌+◌, ◌<◌, ◌≤◌, List, map, get_or, subst, ◌∙◌, ⊎_elim, arith}
use Rattle.std.specs.List.{range_with_len}
use Rattle.std.specs.Array.{IsFromFnResultFrom, IsFromFnResult}
use Rattle.std.proofs.lemmas.List.FromFn.{fill_by_all}
use Rattle.std.proofs.lemmas.Bool.{cases_eq}
use denote.Param.Members.{Mut, Called}

module _ {F B : Type 0} (g : Mut F (ℕ × Unit {0}) B) (f : F) (h : ℕ → B) (n : ℕ) (pure : (i : ℕ) (y : B) (q : F) → i < n → Called g f (i, tt) y q → (q ≡ f) × (y ≡ h i)) where
  each : (i m : ℕ) (ys : List B) → i + m ≡ n → IsFromFnResultFrom g f ys i m → (k : ℕ) (d : B) → i ≤ k → k < n → get_or ys k d ≡ h k
  each i zero ys e all k d low high = absurd (omega arith)
  each i (suc m) ys e (q, y, at, called, more) k d low high =
      let told = pure i y q (omega arith) called in
      ⊎_elim
      (λ (same : i ≡ k). subst (λ (j : ℕ). get_or ys j d ≡ h j) same (at.1 d ∙ told.1))
      (λ (ne : i ≡ k → ⊥). each (i + 1) m ys (omega arith) (subst (λ (p : F). IsFromFnResultFrom g p ys (i + 1) m) told.0 more) k d (omega (arith, ne)) high)
      (cases_eq i k)

  -- each place holds what the closure gives of its number
  pub made_each : (ys : List B) → IsFromFnResult g f ys n → (k : ℕ) (d : B) → k < n → get_or ys k d ≡ h k
  made_each ys made k d high = each 0 n ys (omega arith) made.each k d (omega arith) high

  -- the array is the list of what the closure gives
  pub made_all : (ys : List B) → B → IsFromFnResult g f ys n → ys ≡ map h (range_with_len 0 n)
  made_all ys d made = fill_by_all h ys n d made.long (λ k high. made_each ys made k d high)
