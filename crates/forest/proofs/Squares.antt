-- Rows and columns of a square that lies in a list. Assumes nothing.
use Rattle.std.proofs.Common.{◌≡◌, ℕ, suc, ◌+◌, ◌*◌, ◌/◌, ◌%◌, ◌<◌, List, length, get_or, set, sym, ap, ◌∙◌, arith}
use Rattle.std.proofs.lemmas.Nat.{div-mul-add, mod-mul-add, mul-add-lt}
use Rattle.std.proofs.lemmas.List.{get_or-set_same, get_or-set_other}

-- two places are one only if row and column are
pub same_row : (n r c s d : ℕ) → c < n → d < n → r * n + c ≡ s * n + d → r ≡ s
same_row n r c s d hc hd e = sym (div-mul-add r n c hc) ∙ (ap (λ (k : ℕ). k / n) e ∙ div-mul-add s n d hd)

pub same_column : (n r c s d : ℕ) → c < n → d < n → r * n + c ≡ s * n + d → c ≡ d
same_column n r c s d hc hd e = sym (mod-mul-add r n c hc) ∙ (ap (λ (k : ℕ). k % n) e ∙ mod-mul-add s n d hd)

-- a write at a place, read at another
pub other_place : (xs : List ℕ) (n r c s d v : ℕ) → c < n → d < n → ((r ≡ s) → (c ≡ d) → ⊥) → get_or (set xs (s * n + d) v) (r * n + c) 0 ≡ get_or xs (r * n + c) 0
other_place xs n r c s d v hc hd apart =
    get_or-set_other xs (s * n + d) (r * n + c) v 0 (λ e. apart (same_row n r c s d hc hd e) (same_column n r c s d hc hd e))

-- a write at a place, read there
pub same_place : (xs : List ℕ) (n s d v : ℕ) → s < n → d < n → n * n < suc (length xs) → get_or (set xs (s * n + d) v) (s * n + d) 0 ≡ v
same_place xs n s d v hs hd room = get_or-set_same xs (s * n + d) v 0 (omega (arith, mul-add-lt s n d n hs hd))
