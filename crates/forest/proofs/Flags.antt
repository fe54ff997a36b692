-- Flags that are set, and the pairs of states that no flag stands for. Assumes nothing.
use Rattle.std.proofs.Common.{◌≡◌, ℕ, ◌<◌, Bool, true, false, List, length, get_or, set, sym, ◌∙◌, subst, inl, inr}
use Rattle.std.proofs.lemmas.Bool.{cases_eq}
use Rattle.std.proofs.lemmas.List.{get_or-set_same, get_or-set_other}

-- a flag that is set stays so
pub flag_kept : (flags : List Bool) (i k : ℕ) → i < length flags → get_or flags k false ≡ true → get_or (set flags i true) k false ≡ true
flag_kept flags i k inside so = elim (cases_eq k i) [
  | inl e ↦ subst (λ (j : ℕ). get_or (set flags i true) j false ≡ true) (sym e) (get_or-set_same flags i true false inside)
  | inr ne ↦ get_or-set_other flags i k true false ne ∙ so
]
