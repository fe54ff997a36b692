-- Numbers by their bits: an "and" bit by bit, equal bits, and comparison under a mask.
use Rattle.std.proofs.Common.{◌≡◌, ℕ, zero, suc, ◌+◌, ◌/◌, ◌%◌, ◌^◌, ◌<◌, ◌≤◌, Bool, true, false, ◌&&◌, eqb, Decides, sym, refl, ap, ◌∙◌, pow-suc, div-one, one-add, arith, pow_mono}
use lib.Bits.{bit_and, and_shr, and_mod}
use Rattle.std.proofs.lemmas.Nat.{shr-shr, mod_below}
use Rattle.std.proofs.lemmas.Bool.{eq-eqb, eqb-true, true≢false, false≢true}
use Rattle.ternary.specs.Bits.{digit, bit}
pub use Rattle.ternary.specs.Entries.{and_again}
use Rattle.ternary.specs.Match.{Agrees}

pub digit_zero : (n : ℕ) → digit n 0 ≡ n % 2
unfolding digit
digit_zero n = ap (λ (x : ℕ). x % 2) (div-one n)

pub digit_step : (n p : ℕ) → digit n (suc p) ≡ digit (n / 2) p
unfolding digit
digit_step n p = ap (λ (x : ℕ). x % 2) (ap (λ (q : ℕ). n / 2 ^ q) (sym (one-add p)) ∙ sym (shr-shr n 1 p))

pub digit_lt : (n p : ℕ) → digit n p < 2
unfolding digit
digit_lt n p = mod_below (n / 2 ^ p) 2 (omega arith)

pub bit_step : (n p : ℕ) → bit n (suc p) ≡ bit (n / 2) p
unfolding bit
bit_step n p = ap (λ (d : ℕ). eqb d 1) (digit_step n p)

pub bit_zero : (n d : ℕ) → n % 2 ≡ d → bit n 0 ≡ eqb d 1
unfolding bit
bit_zero n d e = ap (λ (x : ℕ). eqb x 1) (digit_zero n ∙ e)

-- an "and", bit by bit

digit_and : (a b p : ℕ) → digit (bit_and a b) p ≡ bit_and (digit a p) (digit b p)
unfolding digit
digit_and a b p = ap (λ (x : ℕ). x % 2) (and_shr a b p) ∙ and_mod (a / 2 ^ p) (b / 2 ^ p) 1

and_digits : (x y : ℕ) → x < 2 → y < 2 → eqb (bit_and x y) 1 ≡ eqb x 1 && eqb y 1
and_digits zero zero h k = refl
and_digits zero (suc zero) h k = refl
and_digits (suc zero) zero h k = refl
and_digits (suc zero) (suc zero) h k = refl
and_digits (suc (suc x)) y h k = absurd (omega arith)
and_digits zero (suc (suc y)) h k = absurd (omega arith)
and_digits (suc zero) (suc (suc y)) h k = absurd (omega arith)

pub bit-bit_and : (a b p : ℕ) → bit (bit_and a b) p ≡ bit a p && bit b p
unfolding bit
bit-bit_and a b p = ap (λ (d : ℕ). eqb d 1) (digit_and a b p) ∙ and_digits (digit a p) (digit b p) (digit_lt a p) (digit_lt b p)

-- numbers with equal bits are equal

same-digit : (x y : ℕ) → x < 2 → y < 2 → eqb x 1 ≡ eqb y 1 → x ≡ y
same-digit zero zero h k e = refl
same-digit zero (suc zero) h k e = absurd (false≢true e)
same-digit (suc zero) zero h k e = absurd (true≢false e)
same-digit (suc zero) (suc zero) h k e = refl
same-digit (suc (suc x)) y h k e = absurd (omega arith)
same-digit zero (suc (suc y)) h k e = absurd (omega arith)
same-digit (suc zero) (suc (suc y)) h k e = absurd (omega arith)

pub same_bits_below : (w a b : ℕ) → a < 2 ^ w → b < 2 ^ w → ((p : ℕ) → p < w → bit a p ≡ bit b p) → a ≡ b
same_bits_below zero a b ha hb same = omega arith
same_bits_below (suc w) a b ha hb same =
    let halves : a / 2 ≡ b / 2 =
    same_bits_below w (a / 2) (b / 2) (omega (arith, pow-suc 2 w)) (omega (arith, pow-suc 2 w)) (λ p h. sym (bit_step a p) ∙ (same (suc p) (omega arith) ∙ bit_step b p)) in
    let low : a % 2 ≡ b % 2 =
    same-digit (a % 2) (b % 2) (omega arith) (omega arith) (sym (bit_zero a (a % 2) refl) ∙ (same 0 (omega arith) ∙ bit_zero b (b % 2) refl)) in
    omega arith

below_pow : (n : ℕ) → n < 2 ^ n
below_pow zero = omega arith
below_pow (suc n) = omega (arith, below_pow n, pow-suc 2 n)

pub same_bits : (a b : ℕ) → ((p : ℕ) → bit a p ≡ bit b p) → a ≡ b
same_bits a b same =
    let left : 2 ^ a ≤ 2 ^ (a + b) = pow_mono (omega arith) in
    let right : 2 ^ b ≤ 2 ^ (a + b) = pow_mono (omega arith) in
    same_bits_below (a + b) a b (omega (arith, below_pow a)) (omega (arith, below_pow b)) (λ p h. same p)

-- what a mask leaves

and_true : (x y : Bool) → y ≡ true → x && y ≡ x
and_true true y e = e
and_true false y e = refl

-- under a mask bit y: the bits n and v agree, or the mask does not compare them
compared : (n v y : Bool) → v ≡ v && y → (y ≡ true → n ≡ v) → n && y ≡ v
compared n v true clear same = and_true n true refl ∙ same refl
compared true true false clear same = absurd (true≢false clear)
compared true false false clear same = refl
compared false true false clear same = absurd (true≢false clear)
compared false false false clear same = refl

-- a value with no bit under a star is what the mask leaves exactly where all compared bits agree
pub masked_agrees : (value mask n : ℕ) → bit_and value mask ≡ value → Decides (eqb (bit_and n mask) value) (Agrees value mask n)
masked_agrees value mask n clear = (
  λ t p on. sym (and_true (bit n p) (bit mask p) on) ∙ (sym (bit-bit_and n mask p) ∙ ap (λ (x : ℕ). bit x p) (eqb-true (bit_and n mask) value t)),
  λ agrees. eq-eqb (bit_and n mask) value
      (same_bits (bit_and n mask) value
      (λ p. bit-bit_and n mask p ∙ compared (bit n p) (bit value p) (bit mask p) (ap (λ (x : ℕ). bit x p) (sym clear) ∙ bit-bit_and value mask p) (agrees p))),
)
