-- Numbers made of bits: what a field read back is, and when a masked comparison holds.
use Rattle.std.proofs.Common.{◌≡◌, ℕ, zero, suc, ◌+◌, ◌*◌, ◌/◌, ◌%◌, ◌^◌, ◌<◌, ◌≤◌, Bool, true, false, cond, not, ◌&&◌, eqb, List, sym, refl, ap, ◌∙◌, mul-le-mul_right, mod-eq_of_lt, pow-suc, one-add, arith}
use lib.Bits.{bit_and, and_block, and_lt, and_zero_r}
use Rattle.std.proofs.lemmas.Nat.{mod-pow-add, div-mul-add, mod-mul-add, mod_below, pow_pos}
use Rattle.std.proofs.lemmas.Bool.{eq-eqb}
use Rattle.std.proofs.lemmas.Bool.Decides.{same_from_decides, Decides-eqb, Decides-and, Decides-like}
use Rattle.ternary.specs.Bits.{digit, bit}
use Rattle.ternary.proofs.BitLaws.{digit_lt}
use Rattle.column.specs.Bitmaps.{same, of_bits, accepts, agrees, field_value, field_mask, Marked}

digit_of : (b : Bool) → cond b 1 0 < 2
digit_of true = omega arith
digit_of false = omega arith

pub bits_lt : (f : ℕ → Bool) (w : ℕ) → of_bits f w < 2 ^ w
bits_lt f zero = omega arith
bits_lt f (suc w) =
    let b : ℕ = cond (f w) 1 0 in
    let less = bits_lt f w in
    let top : b * 2 ^ w ≤ 1 * 2 ^ w = mul-le-mul_right (2 ^ w) (let h : b ≤ 1 = omega (arith, digit_of (f w)) in h) in
    omega (arith, pow-suc 2 w)

pub bits_like : (f g : ℕ → Bool) (w : ℕ) → ((k : ℕ) → k < w → f k ≡ g k) → of_bits f w ≡ of_bits g w
bits_like f g zero h = refl
bits_like f g (suc w) h =
    ap (λ (b : Bool). cond b 1 0 * 2 ^ w + of_bits f w) (h w (omega arith))
    ∙ ap (λ (n : ℕ). cond (g w) 1 0 * 2 ^ w + n) (bits_like f g w (λ k l. h k (omega arith)))

-- one more bit of x
mod_more : (x w : ℕ) → x % 2 ^ suc w ≡ digit x w * 2 ^ w + x % 2 ^ w
unfolding digit
mod_more x w = ap (λ (k : ℕ). x % 2 ^ k) (sym (one-add w)) ∙ mod-pow-add x 1 w

digit-cond : (d : ℕ) → d < 2 → cond (eqb d 1) 1 0 ≡ d
digit-cond zero h = refl
digit-cond (suc zero) h = refl
digit-cond (suc (suc d)) h = absurd (omega arith)

bit-cond : (x p : ℕ) → cond (bit x p) 1 0 ≡ digit x p
unfolding bit
bit-cond x p = digit-cond (digit x p) (digit_lt x p)

-- the number made of the bits of x
pub bits_of : (x w : ℕ) → of_bits (bit x) w ≡ x % 2 ^ w
bits_of x zero = omega arith
bits_of x (suc w) =
    ap (λ (d : ℕ). d * 2 ^ w + of_bits (bit x) w) (bit-cond x w)
    ∙ ap (λ (n : ℕ). digit x w * 2 ^ w + n) (bits_of x w) ∙ sym (mod_more x w)

pub bits_are : (f : ℕ → Bool) (x w : ℕ) → x < 2 ^ w → ((k : ℕ) → k < w → f k ≡ bit x k) → of_bits f w ≡ x
bits_are f x w h e = bits_like f (bit x) w e ∙ bits_of x w ∙ mod-eq_of_lt h

-- two numbers of one digit above w bits are equal where their digits and their low parts are
eqb_block : (w a b r s : ℕ) → r < 2 ^ w → s < 2 ^ w → eqb (a * 2 ^ w + r) (b * 2 ^ w + s) ≡ eqb r s && eqb a b
eqb_block w a b r s h l =
    let m : ℕ = 2 ^ w in
    same_from_decides (eqb (a * m + r) (b * m + s)) (eqb r s && eqb a b)
    (Decides-like (eqb (a * m + r) (b * m + s))
    (λ e. (sym (mod-mul-add a m r h) ∙ ap (λ (n : ℕ). n % m) e ∙ mod-mul-add b m s l, sym (div-mul-add a m r h) ∙ ap (λ (n : ℕ). n / m) e ∙ div-mul-add b m s l))
    (λ e. ap (λ (n : ℕ). n * m + r) e.1 ∙ ap (λ (n : ℕ). b * m + n) e.0)
    (Decides-eqb (a * m + r) (b * m + s)))
    (Decides-and (eqb r s) (eqb a b) (Decides-eqb r s) (Decides-eqb a b))

-- the bits of the value and of the mask, from which of 0 and 1 is accepted
abbrev value_digit : Bool → ℕ
value_digit a₀ = cond (not a₀) 1 0

abbrev mask_digit : Bool → Bool → ℕ
mask_digit a₀ a₁ = cond (not (same a₀ a₁)) 1 0

at_zero : (a₀ a₁ : Bool) → eqb (bit_and 0 (mask_digit a₀ a₁)) (value_digit a₀) ≡ a₀
at_zero true true = refl
at_zero true false = refl
at_zero false true = refl
at_zero false false = refl

at_one : (a₀ a₁ : Bool) → eqb (bit_and 1 (mask_digit a₀ a₁)) (value_digit a₀) ≡ a₁
at_one true true = refl
at_one true false = refl
at_one false true = refl
at_one false false = refl

-- a digit agrees with a value under a mask where it is accepted
at_digit : (f : ℕ → Bool) (d : ℕ) → d < 2 → eqb (bit_and d (mask_digit (f 0) (f 1))) (value_digit (f 0)) ≡ f d
at_digit f zero h = at_zero (f 0) (f 1)
at_digit f (suc zero) h = at_one (f 0) (f 1)
at_digit f (suc (suc d)) h = absurd (omega arith)

-- a masked comparison of w bits with what is read back holds where each bit is accepted
pub field_agrees : (ws : List ℕ) (base place x w : ℕ) → eqb (bit_and (x % 2 ^ w) (field_mask ws base place w)) (field_value ws base place w) ≡ agrees ws base place x w
field_agrees ws base place x zero = eq-eqb (bit_and (x % 1) 0) 0 (and_zero_r (x % 1))
field_agrees ws base place x (suc w) =
    let f : ℕ → Bool = accepts ws base place w in
    let d : ℕ = digit x w in
    let r : ℕ = x % 2 ^ w in
    let mask : ℕ = field_mask ws base place w in
    let value : ℕ = field_value ws base place w in
    let md : ℕ = mask_digit (f 0) (f 1) in
    let vd : ℕ = value_digit (f 0) in
    let low : r < 2 ^ w = mod_below x (2 ^ w) (pow_pos w) in
    let low_mask : mask < 2 ^ w = bits_lt (λ k. not (same (accepts ws base place k 0) (accepts ws base place k 1))) w in
    let low_value : value < 2 ^ w = bits_lt (λ k. not (accepts ws base place k 0)) w in
    ap (λ (n : ℕ). eqb (bit_and n (md * 2 ^ w + mask)) (vd * 2 ^ w + value)) (mod_more x w)
    ∙ ap (λ (n : ℕ). eqb n (vd * 2 ^ w + value)) (and_block w d md r mask low low_mask)
    ∙ eqb_block w (bit_and d md) vd (bit_and r mask) value (and_lt w r mask low low_mask) low_value
    ∙ ap (λ (b : Bool). eqb (bit_and r mask) value && b) (at_digit f d (digit_lt x w))
    ∙ ap (λ (b : Bool). b && f d) (field_agrees ws base place x w)

pub field_matches : (ws : List ℕ) (base place x w : ℕ) → x < 2 ^ w → eqb (bit_and x (field_mask ws base place w)) (field_value ws base place w) ≡ agrees ws base place x w
field_matches ws base place x w h =
    ap (λ (n : ℕ). eqb (bit_and n (field_mask ws base place w)) (field_value ws base place w)) (sym (mod-eq_of_lt h)) ∙ field_agrees ws base place x w

not_not : (b : Bool) → not (not b) ≡ b
not_not true = refl
not_not false = refl

mask_back : (v m : Bool) → not (same (not v) (same v m)) ≡ m
mask_back true true = refl
mask_back true false = refl
mask_back false true = refl
mask_back false false = refl

-- a field that was marked reads back as the value and the mask
pub value_marked : (ws : List ℕ) (base place w value mask : ℕ) → Marked ws base w place value mask → value < 2 ^ w → field_value ws base place w ≡ value
value_marked ws base place w value mask h l = bits_are _ value w l (λ k b. ap not (h k b).0 ∙ not_not (bit value k))

pub mask-marked : (ws : List ℕ) (base place w value mask : ℕ) → Marked ws base w place value mask → mask < 2 ^ w → field_mask ws base place w ≡ mask
mask-marked ws base place w value mask h l =
    bits_are _ mask w l
    (λ k b. ap (λ (a : Bool). not (same a (accepts ws base place k 1))) (h k b).0 ∙ ap (λ (a : Bool). not (same (not (bit value k)) a)) (h k b).1 ∙ mask_back (bit value k) (bit mask k))

-- a field whose marks are as they were reads back as before
pub field_kept : (ws vs : List ℕ) (base place w : ℕ) → ((k v : ℕ) → k < w → v < 2 → accepts vs base place k v ≡ accepts ws base place k v)
    → (field_value vs base place w ≡ field_value ws base place w) × (field_mask vs base place w ≡ field_mask ws base place w)
field_kept ws vs base place w h = (
  bits_like _ _ w (λ k l. ap not (h k 0 l (omega arith))),
  bits_like _ _ w (λ k l. ap (λ (a : Bool). not (same a (accepts vs base place k 1))) (h k 0 l (omega arith)) ∙ ap (λ (a : Bool). not (same (accepts ws base place k 0) a)) (h k 1 l (omega arith))),
)
