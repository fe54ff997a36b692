-- An array that is made by a function of the index. Assumes nothing.
use Rattle.std.proofs.Common.{◌≡◌, ℕ, zero, suc, ◌+◌, ◌<◌, List, get_or, ◌∙◌, subst, arith}
use Rattle.std.specs.Fn.{Mut, Called}
use Rattle.std.specs.Array.{IsFromFnResultFrom}

module _ {F B : Type 0} (g : Mut F (ℕ × Unit {0}) B) (value : ℕ → B) (f : F)
    (says : (x : ℕ) (y : B) (q : F) → Called g f (x, tt) y q → (q ≡ f) × (y ≡ value x)) where
  -- where no call changes what the function captures, each element is the function's answer
  pub element-from_fn : (ys : List B) (i n k j : ℕ) (d : B) → IsFromFnResultFrom g f ys i n → k < n → i + k ≡ j → get_or ys j d ≡ value j
  element-from_fn ys i zero k j d made h e = absurd (omega arith)
  element-from_fn ys i (suc n) zero j d made h e =
      let at : i ≡ j = omega arith in
      subst (λ m. get_or ys m d ≡ value m) at (made.2.1 d ∙ (says i made.1 made.0 made.3).1)
  element-from_fn ys i (suc n) (suc k) j d made h e =
      element-from_fn ys (i + 1) n k j d (subst (λ q. IsFromFnResultFrom g q ys (i + 1) n) (says i made.1 made.0 made.3).0 made.4) (omega arith) (omega arith)
