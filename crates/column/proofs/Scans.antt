-- The search of one block of 64 entries: what the joined word says of each of them.
use Rattle.std.proofs.Common.{◌≡◌, ℕ, ◌+◌, ◌-◌, ◌*◌, ◌/◌, ◌%◌, ◌<◌, ◌≤◌, Bool, false, ◌&&◌, List, [], eqb, sym, ap, ◌∙◌, subst, ⊎_elim, arith}
use lib.Bits.{bit_and}
use Rattle.std.proofs.lemmas.Bool.{cases_lt}
use Rattle.std.proofs.lemmas.Simd.{bit_mask_l}
use Rattle.ternary.specs.Bits.{bit}
use Rattle.ternary.proofs.BitLaws.{bit-bit_and}
use Rattle.column.specs.Bitmaps.{agrees, hit}

-- 0 has no bit
bit_of_zero : (p : ℕ) → bit 0 p ≡ false
unfolding bit
bit_of_zero p = ap (λ (d : ℕ). eqb d 1) (bit_mask_l [] p)

-- a bit of the joined word is set where the entry accepts the code and the byte
pub joined_hit : (ws : List ℕ) (code byte b codes bytes p : ℕ) → p < 64 → bit codes p ≡ agrees ws (48 * b) p code 16 → bit bytes p ≡ agrees ws (48 * b + 32) p byte 8
    → bit (bit_and codes bytes) p ≡ hit ws code byte (64 * b + p)
joined_hit ws code byte b codes bytes p h by_code by_byte =
    let same_block : b ≡ (64 * b + p) / 64 = omega arith in
    let same_place : p ≡ (64 * b + p) % 64 = omega arith in
    bit-bit_and codes bytes p
    ∙ ap (λ (t : Bool). t && bit bytes p) by_code
    ∙ ap (λ (t : Bool). agrees ws (48 * b) p code 16 && t) by_byte
    ∙ ap (λ (q : ℕ). agrees ws (48 * b) q code 16 && agrees ws (48 * b + 32) q byte 8) same_place
    ∙ ap (λ (c : ℕ). agrees ws (48 * c) ((64 * b + p) % 64) code 16 && agrees ws (48 * c + 32) ((64 * b + p) % 64) byte 8) same_block

-- no bit is set where no entry accepts the code
pub unjoined_hit : (ws : List ℕ) (code byte b p : ℕ) → p < 64 → bit 0 p ≡ agrees ws (48 * b) p code 16 → bit 0 p ≡ hit ws code byte (64 * b + p)
unjoined_hit ws code byte b p h by_code =
    let same_block : b ≡ (64 * b + p) / 64 = omega arith in
    let same_place : p ≡ (64 * b + p) % 64 = omega arith in
    bit_of_zero p
    ∙ ap (λ (t : Bool). t && agrees ws (48 * b + 32) p byte 8) (sym (bit_of_zero p) ∙ by_code)
    ∙ ap (λ (q : ℕ). agrees ws (48 * b) q code 16 && agrees ws (48 * b + 32) q byte 8) same_place
    ∙ ap (λ (c : ℕ). agrees ws (48 * c) ((64 * b + p) % 64) code 16 && agrees ws (48 * c + 32) ((64 * b + p) % 64) byte 8) same_block

-- no entry is hit up to the lowest set bit r of the joined word of block b
pub hit_below : (ws : List ℕ) (code byte b word r : ℕ) → ((p : ℕ) → p < 64 → bit word p ≡ hit ws code byte (64 * b + p)) → r ≤ 64
    → ((p : ℕ) → p < r → bit word p ≡ false) → ((j : ℕ) → j < 64 * b → hit ws code byte j ≡ false) → (j : ℕ) → j < 64 * b + r → hit ws code byte j ≡ false
hit_below ws code byte b word r joined within clear before j l =
    ⊎_elim (before j)
    (λ (g : 64 * b ≤ j).
    let p : ℕ = j - 64 * b in
    let at : 64 * b + p ≡ j = omega arith in
    subst (λ (i : ℕ). hit ws code byte i ≡ false) at (sym (joined p (omega arith)) ∙ clear p (omega arith)))
    (cases_lt j (64 * b))
