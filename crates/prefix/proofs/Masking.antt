-- A prefix word as a value and a mask over the bits of a byte. Assumes nothing.
use Rattle.std.proofs.Common.{◌≡◌, ℕ, ◌+◌, ◌-◌, ◌*◌, ◌/◌, ◌%◌, ◌^◌, ◌<◌, ◌≤◌, Bool, true, false, eqb, sym, refl, ap, ◌∙◌, subst, add-zero, mod-eq_of_lt, arith, eq-eqb, ne_eqb, eqb-true}
use native.Mathlib.Nat.{mul-mod_left, mod-mod}
use lib.Bits.{bit_and, and_high, and_mask}
use lib.Pow.{shl-shr, shr_mod, mod-pow-add, mod-mod-pow}
use borrow.Author.Tests.{eqb-false}

-- the low eight bits of a value that was moved
pub low_byte : (n : ℕ) → bit_and (n % 65536) 255 ≡ n % 256
low_byte n = and_mask (n % 65536) 8 ∙ mod-mod-pow n 8 8

-- moved numbers are equal exactly where the numbers are
same_moved : (a b k : ℕ) → eqb (a * 2 ^ k) (b * 2 ^ k) ≡ eqb a b
same_moved a b k = go (eqb a b) refl
  where
    go : (t : Bool) → eqb a b ≡ t → eqb (a * 2 ^ k) (b * 2 ^ k) ≡ t
    go true p = eq-eqb (a * 2 ^ k) (b * 2 ^ k) (ap (λ n. n * 2 ^ k) (eqb-true a b p))
    go false p = ne_eqb (a * 2 ^ k) (b * 2 ^ k) (λ e. eqb-false a b p (sym (shl-shr a k) ∙ (ap (λ n. n / 2 ^ k) e ∙ shl-shr b k)))

module _ (j k : ℕ) (w : j + k ≡ 8) where
  -- under the mask a byte keeps its first bits
  masked : (byte : ℕ) → bit_and byte (256 - 2 ^ k) ≡ (byte / 2 ^ k % 2 ^ j) * 2 ^ k
  masked byte = subst (λ (n : ℕ). bit_and byte (2 ^ n - 2 ^ k) ≡ (byte / 2 ^ k % 2 ^ j) * 2 ^ k) w (and_high byte j k)

  -- a value moved to the first bits
  moved : (v : ℕ) → v * 2 ^ k % 256 ≡ (v % 2 ^ j) * 2 ^ k
  moved v =
      subst (λ (n : ℕ). v * 2 ^ k % 2 ^ n ≡ (v % 2 ^ j) * 2 ^ k) w
      (mod-pow-add (v * 2 ^ k) j k ∙ (ap (λ n. (n % 2 ^ j) * 2 ^ k + v * 2 ^ k % 2 ^ k) (shl-shr v k) ∙ (ap (λ n. (v % 2 ^ j) * 2 ^ k + n) (mul-mod_left v (2 ^ k)) ∙ add-zero ((v % 2 ^ j) * 2 ^ k))))

  -- it has no other bit
  stays : (v : ℕ) → bit_and (v * 2 ^ k % 256) (256 - 2 ^ k) ≡ v * 2 ^ k % 256
  stays v =
      masked (v * 2 ^ k % 256)
      ∙ (ap (λ n. (n / 2 ^ k % 2 ^ j) * 2 ^ k) (moved v)
      ∙ (ap (λ n. (n % 2 ^ j) * 2 ^ k) (shl-shr (v % 2 ^ j) k)
      ∙ (ap (λ n. n * 2 ^ k) (mod-mod v (2 ^ j)) ∙ sym (moved v))))

  -- comparing under the mask is comparing the first bits
  compared : (v byte : ℕ) → v < 2 ^ j → byte < 256 → eqb (bit_and byte (256 - 2 ^ k)) (v * 2 ^ k % 256) ≡ eqb (byte / 2 ^ k) v
  compared v byte h q =
      let b : byte < 2 ^ (j + k) = subst (λ (n : ℕ). byte < 2 ^ n) (sym w) q in
      rw (masked byte, moved v, shr_mod j k b, mod-eq_of_lt h) (same_moved (byte / 2 ^ k) v k)

-- the same for a word that compares so many bits
pub clear : (bits v : ℕ) → bit_and (v * 2 ^ (8 - bits) % 256) (256 - 2 ^ (8 - bits)) ≡ v * 2 ^ (8 - bits) % 256
clear bits v = stays (8 - (8 - bits)) (8 - bits) (omega arith) v

pub compares : (bits v byte : ℕ) → bits ≤ 8 → v < 2 ^ bits → byte < 256 → eqb (bit_and byte (256 - 2 ^ (8 - bits))) (v * 2 ^ (8 - bits) % 256) ≡ eqb (byte / 2 ^ (8 - bits)) v
compares bits v byte h k q = compared bits (8 - bits) (omega arith) v byte k q
