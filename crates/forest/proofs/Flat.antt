-- The forest of states that are all roots: their codes are their numbers. Assumes nothing.
use Rattle.std.proofs.Common.{◌≡◌, ℕ, zero, suc, false, ◌+◌, ◌-◌, ◌*◌, ◌^◌, None, sym, refl, ap, ◌∙◌, ap₂, arith}
use Rattle.forest.specs.Forest.{Forest, code, mask}
use Rattle.forest.specs.Codes.{Parents, bits_for, child_bits, root_bits, deferring, span_of, width_of, numbered}
use Rattle.forest.proofs.Counts.{count_none, most_none}

abbrev pub roots : Parents
roots s = None

pub all_roots : (m : ℕ) → deferring roots None m ≡ m
all_roots zero = refl
all_roots (suc m) = ap suc (all_roots m)

abbrev pub flat : ℕ → Forest
flat n = numbered n roots (λ s. 0)

module _ (n : ℕ) where
  no_children : (t : ℕ) → child_bits n roots t ≡ 0
  no_children t = ap (λ (c : ℕ). bits_for (c + 1)) (count_none (λ s. false) n (λ k h. refl))

  no_span : (h t : ℕ) → span_of h n roots t ≡ 0
  no_span zero t = refl
  no_span (suc h) t = omega (arith, no_children t, most_none (λ s. 0) n (λ k. refl))

  pub flat_width : width_of n roots ≡ bits_for n
  flat_width = omega (arith, ap bits_for (all_roots n), most_none (λ t. span_of n n roots t) n (λ t. no_span n t))

  flat_rest : width_of n roots - root_bits n roots ≡ 0
  flat_rest = omega (arith, flat_width, ap bits_for (all_roots n))

  pub flat_code : (s : ℕ) → code (flat n) s ≡ s
  flat_code s = ap₂ (λ (x y : ℕ). x * 2 ^ y) (all_roots s) flat_rest ∙ omega arith

  flat_mask : (s : ℕ) → mask (flat n) s ≡ 2 ^ bits_for n - 2 ^ 0
  flat_mask s = ap₂ (λ (x y : ℕ). 2 ^ x - 2 ^ y) flat_width flat_rest

-- the mask that covers a whole code
pub masked : (width mask_now n s : ℕ) → width ≡ bits_for n → mask_now ≡ 2 ^ width - 2 ^ (width - width) → mask_now ≡ mask (flat n) s
masked width mask_now n s w m =
    let none : width - width ≡ 0 = omega arith in
    m ∙ ap₂ (λ (x y : ℕ). 2 ^ x - 2 ^ y) w none ∙ sym (flat_mask n s)
