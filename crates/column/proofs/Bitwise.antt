-- The bits of a word: of an "or", a power of two and a complement, and the lowest set bit.
use Rattle.std.proofs.Common.{◌≡◌, ℕ, zero, suc, ◌+◌, ◌-◌, ◌*◌, ◌/◌, ◌%◌, ◌^◌, ◌<◌, Bool, true, false, cond, not, ◌&&◌, ◌||◌, eqb, List, length, get_or, set, sym, refl, ap, ◌∙◌, ⊎_elim, pow-suc, arith}
use lib.Dec.{eqb-suc-suc}
use lib.Bits.{bit_and, bit_or, or_shr, or_mod}
use lib.Count.{count_trailing_zeros, under}
use Rattle.std.proofs.lemmas.Nat.{mod_below, pow_pos, pow_below, one_shl, and_mask}
use Rattle.std.proofs.lemmas.Bool.{eq-eqb, ne_eqb, cases_eq}
use Rattle.std.proofs.lemmas.List.{get_or-set_same, get_or-set_other}
use Rattle.ternary.specs.Bits.{digit, bit}
use Rattle.ternary.proofs.BitLaws.{digit_lt, bit_step, bit_zero, bit-bit_and}
use Rattle.column.specs.Bitmaps.{same}

-- the lowest set bit

step_below : (d n t : ℕ) → n % 2 ≡ d → ((p : ℕ) → p < t → bit (n / 2) p ≡ false) → (p : ℕ) → p < under d t → bit n p ≡ false
step_below zero n t e h zero l = bit_zero n 0 e
step_below zero n t e h (suc p) l = bit_step n p ∙ h p (omega arith)
step_below (suc d) n t e h p l = absurd (omega arith)

-- each bit below the lowest set one is clear
pub trailing_below : (k n p : ℕ) → p < count_trailing_zeros k n → bit n p ≡ false
unfolding count_trailing_zeros
trailing_below zero n p l = absurd (omega arith)
trailing_below (suc k) n p l = step_below (n % 2) n (count_trailing_zeros k (n / 2)) refl (trailing_below k (n / 2)) p l

step_at : (d n t k : ℕ) → n % 2 ≡ d → (t < k → bit (n / 2) t ≡ true) → under d t < suc k → bit n (under d t) ≡ true
step_at zero n t k e h l = bit_step n t ∙ h (omega arith)
step_at (suc zero) n t k e h l = bit_zero n 1 e
step_at (suc (suc d)) n t k e h l = absurd (omega (arith, mod_below n 2 (omega arith)))

-- the lowest set bit is set
pub trailing_at : (k n : ℕ) → count_trailing_zeros k n < k → bit n (count_trailing_zeros k n) ≡ true
unfolding count_trailing_zeros
trailing_at zero n l = absurd (omega arith)
trailing_at (suc k) n l = step_at (n % 2) n (count_trailing_zeros k (n / 2)) k refl (trailing_at k (n / 2)) l

-- an "or", bit by bit

digit_or : (a b p : ℕ) → digit (bit_or a b) p ≡ bit_or (digit a p) (digit b p)
unfolding digit
digit_or a b p = ap (λ (x : ℕ). x % 2) (or_shr a b p) ∙ or_mod (a / 2 ^ p) (b / 2 ^ p) 1

or_digits : (x y : ℕ) → x < 2 → y < 2 → eqb (bit_or x y) 1 ≡ eqb x 1 || eqb y 1
or_digits zero zero h k = refl
or_digits zero (suc zero) h k = refl
or_digits (suc zero) zero h k = refl
or_digits (suc zero) (suc zero) h k = refl
or_digits (suc (suc x)) y h k = absurd (omega arith)
or_digits zero (suc (suc y)) h k = absurd (omega arith)
or_digits (suc zero) (suc (suc y)) h k = absurd (omega arith)

pub bit-bit_or : (a b p : ℕ) → bit (bit_or a b) p ≡ bit a p || bit b p
unfolding bit
bit-bit_or a b p = ap (λ (d : ℕ). eqb d 1) (digit_or a b p) ∙ or_digits (digit a p) (digit b p) (digit_lt a p) (digit_lt b p)

-- a power of two has one bit, and its complement all others

zero_bit : (p : ℕ) → bit 0 p ≡ false
zero_bit zero = bit_zero 0 0 refl
zero_bit (suc p) = bit_step 0 p ∙ zero_bit p

pub bit_pow : (q p : ℕ) → bit (2 ^ q) p ≡ eqb p q
bit_pow zero zero = bit_zero 1 1 refl
bit_pow zero (suc p) = bit_step 1 p ∙ zero_bit p ∙ sym (ne_eqb (suc p) 0 (λ e. omega arith))
bit_pow (suc q) zero = bit_zero (2 ^ suc q) 0 (omega (arith, pow-suc 2 q)) ∙ sym (ne_eqb 0 (suc q) (λ e. omega arith))
bit_pow (suc q) (suc p) =
    bit_step (2 ^ suc q) p
    ∙ ap (λ (n : ℕ). bit n p) (let e : 2 ^ suc q / 2 ≡ 2 ^ q = omega (arith, pow-suc 2 q) in e)
    ∙ bit_pow q p ∙ sym (eqb-suc-suc p q)

flip : (x y : ℕ) → x < 2 → y < 2 → x + y ≡ 1 → eqb x 1 ≡ not (eqb y 1)
flip zero zero h k e = absurd (omega arith)
flip zero (suc zero) h k e = refl
flip (suc zero) zero h k e = refl
flip (suc zero) (suc zero) h k e = absurd (omega arith)
flip (suc (suc x)) y h k e = absurd (omega arith)
flip zero (suc (suc y)) h k e = absurd (omega arith)
flip (suc zero) (suc (suc y)) h k e = absurd (omega arith)

-- the complement of a within w bits
pub bit_not : (w a p : ℕ) → a < 2 ^ w → p < w → bit (2 ^ w - 1 - a) p ≡ not (bit a p)
bit_not zero a p h l = absurd (omega arith)
bit_not (suc w) a zero h l =
    let n : ℕ = 2 ^ suc w - 1 - a in
    let e : n % 2 + a % 2 ≡ 1 = omega (arith, pow-suc 2 w) in
    bit_zero n (n % 2) refl ∙ flip (n % 2) (a % 2) (mod_below n 2 (omega arith)) (mod_below a 2 (omega arith)) e ∙ ap not (sym (bit_zero a (a % 2) refl))
bit_not (suc w) a (suc p) h l =
    let e : (2 ^ suc w - 1 - a) / 2 ≡ 2 ^ w - 1 - a / 2 = omega (arith, pow-suc 2 w) in
    let small : a / 2 < 2 ^ w = omega (arith, pow-suc 2 w) in
    bit_step (2 ^ suc w - 1 - a) p ∙ ap (λ (n : ℕ). bit n p) e ∙ bit_not w (a / 2) p small (omega arith) ∙ ap not (sym (bit_step a p))

-- one bit of a word set, or cleared

or_cond : (x y : Bool) → (x || y) ≡ cond y true x
or_cond true true = refl
or_cond true false = refl
or_cond false true = refl
or_cond false false = refl

and_cond : (x y : Bool) → (x && not y) ≡ cond y false x
and_cond true true = refl
and_cond true false = refl
and_cond false true = refl
and_cond false false = refl

pub bit-set : (w q p : ℕ) → bit (bit_or w (2 ^ q)) p ≡ cond (eqb p q) true (bit w p)
bit-set w q p = bit-bit_or w (2 ^ q) p ∙ ap (λ (b : Bool). bit w p || b) (bit_pow q p) ∙ or_cond (bit w p) (eqb p q)

pub bit-clear : (k w q p : ℕ) → q < k → p < k → bit (bit_and w (2 ^ k - 1 - 2 ^ q)) p ≡ cond (eqb p q) false (bit w p)
bit-clear k w q p h l =
    bit-bit_and w (2 ^ k - 1 - 2 ^ q) p
    ∙ ap (λ (b : Bool). bit w p && b) (bit_not k (2 ^ q) p (pow_below q k h) l ∙ ap not (bit_pow q p))
    ∙ and_cond (bit w p) (eqb p q)

-- one word of a list written, with one bit of it changed
pub bit_put : (ws : List ℕ) (i place v : ℕ) (on : Bool) (q p : ℕ) → i < length ws → bit v p ≡ cond (eqb p place) on (bit (get_or ws i 0) p)
    → bit (get_or (set ws i v) q 0) p ≡ cond (eqb q i && eqb p place) on (bit (get_or ws q 0) p)
bit_put ws i place v on q p h e =
    ⊎_elim
    (λ (s : q ≡ i). let one : eqb i i ≡ true = eq-eqb i i refl in simp (s, one, get_or-set_same ws i v 0 h) e)
    (λ (n : q ≡ i → ⊥). let one : eqb q i ≡ false = ne_eqb q i n in simp (one, get_or-set_other ws i q v 0 n) refl)
    (cases_eq q i)

-- what `put` leaves where it sets a bit, and where it clears one
pub bit_put_set : (ws : List ℕ) (i place : ℕ) (q p : ℕ) → i < length ws → place < 64
    → bit (get_or (set ws i (bit_or (get_or ws i 0) ((1 * 2 ^ place) % 2 ^ 64))) q 0) p ≡ cond (eqb q i && eqb p place) true (bit (get_or ws q 0) p)
bit_put_set ws i place q p h l =
    bit_put ws i place (bit_or (get_or ws i 0) ((1 * 2 ^ place) % 2 ^ 64)) true q p h
    (ap (λ (x : ℕ). bit (bit_or (get_or ws i 0) x) p) (one_shl place 64 l) ∙ bit-set (get_or ws i 0) place p)

pub bit_put_clear : (ws : List ℕ) (i place : ℕ) (q p : ℕ) → i < length ws → place < 64 → p < 64
    → bit (get_or (set ws i (bit_and (get_or ws i 0) (2 ^ 64 - 1 - (1 * 2 ^ place) % 2 ^ 64))) q 0) p ≡ cond (eqb q i && eqb p place) false (bit (get_or ws q 0) p)
bit_put_clear ws i place q p h l k =
    bit_put ws i place (bit_and (get_or ws i 0) (2 ^ 64 - 1 - (1 * 2 ^ place) % 2 ^ 64)) false q p h
    (ap (λ (x : ℕ). bit (bit_and (get_or ws i 0) (2 ^ 64 - 1 - x)) p) (one_shl place 64 l) ∙ bit-clear 64 (get_or ws i 0) place p l k)

-- all 64 bits set
pub bit_ones : (p : ℕ) → p < 64 → bit (2 ^ 64 - 1) p ≡ true
bit_ones p h = bit_not 64 0 p (pow_pos 64) h ∙ ap not (zero_bit p)

-- `(x >> k) & 1`
pub low_digit : (x k : ℕ) → bit_and (x / 2 ^ k) 1 ≡ digit x k
unfolding digit
low_digit x k = and_mask (x / 2 ^ k) 1

digit_clear : (x : ℕ) → x < 2 → eqb x 0 ≡ not (eqb x 1)
digit_clear zero h = refl
digit_clear (suc zero) h = refl
digit_clear (suc (suc x)) h = absurd (omega arith)

digits_same : (x y : ℕ) → x < 2 → y < 2 → eqb x y ≡ same (eqb x 1) (eqb y 1)
digits_same zero zero h k = refl
digits_same zero (suc zero) h k = refl
digits_same (suc zero) zero h k = refl
digits_same (suc zero) (suc zero) h k = refl
digits_same (suc (suc x)) y h k = absurd (omega arith)
digits_same zero (suc (suc y)) h k = absurd (omega arith)
digits_same (suc zero) (suc (suc y)) h k = absurd (omega arith)

-- a bit that is 0, and two bits that are equal
pub bit_clear_test : (x k : ℕ) → eqb (bit_and (x / 2 ^ k) 1) 0 ≡ not (bit x k)
unfolding bit
bit_clear_test x k = ap (λ (d : ℕ). eqb d 0) (low_digit x k) ∙ digit_clear (digit x k) (digit_lt x k)

pub bit_same_test : (x y k : ℕ) → eqb (bit_and (x / 2 ^ k) 1) (bit_and (y / 2 ^ k) 1) ≡ same (bit x k) (bit y k)
unfolding bit
bit_same_test x y k =
    ap (λ (d : ℕ). eqb d (bit_and (y / 2 ^ k) 1)) (low_digit x k) ∙ ap (λ (d : ℕ). eqb (digit x k) d) (low_digit y k)
    ∙ digits_same (digit x k) (digit y k) (digit_lt x k) (digit_lt y k)
