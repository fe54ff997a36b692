-- A code is the sum of the parts of a state and of those above it. Assumes nothing.
use Rattle.std.proofs.Common.{◌≡◌, ℕ, ◌+◌, ◌*◌, ◌^◌, ◌<◌, ◌≤◌, Some, None, Option, sym, ap, ◌∙◌, subst, inl, inr, mul_assoc, add-mul, arith, pow-add}
use Rattle.forest.specs.Forest.{Forest, rest, code}
use Rattle.forest.specs.Arrays.{part}
use Rattle.forest.proofs.Formed.{WellFormed, Follows}
use Rattle.forest.proofs.Shadow.{cases_parent}

module _ (f : Forest) (wf : WellFormed f) (s : ℕ) (hs : s < f.states) where
  pub code_root : f.parent s ≡ None → code f s ≡ part f s
  code_root e =
      let r : Follows f s None = subst (λ (o : Option ℕ). Follows f s o) e (wf.follows s hs) in
      ap (λ (x : ℕ). x * 2 ^ rest f s) r.1

  pub code_child : (p : ℕ) → f.parent s ≡ Some p → code f s ≡ code f p + part f s
  code_child p e =
      let r : Follows f s (Some p) = subst (λ (o : Option ℕ). Follows f s o) e (wf.follows s hs) in
      let room : f.bits p + rest f s ≡ rest f p = omega (arith, r.5, wf.fits s hs) in
      ap (λ (x : ℕ). x * 2 ^ rest f s) r.4 ∙ add-mul (f.prefix p * 2 ^ f.bits p) (f.number s) (2 ^ rest f s)
      ∙ ap (λ (x : ℕ). x + part f s) (mul_assoc (f.prefix p) (2 ^ f.bits p) (2 ^ rest f s) ∙ ap (λ (x : ℕ). f.prefix p * x) (sym (pow-add 2 (f.bits p) (rest f s)) ∙ ap (λ (k : ℕ). 2 ^ k) room))

  pub part_within : part f s ≤ code f s
  part_within = elim (cases_parent (f.parent s)) [
    | inl e ↦ omega (arith, code_root e)
    | inr (p, e) ↦ omega (arith, code_child p e)
  ]
