-- The steps of `join` and `write_field`, over the columns of one field.
use Rattle.std.proofs.Common.{◌≡◌, ℕ, ◌+◌, ◌*◌, ◌/◌, ◌%◌, ◌^◌, ◌<◌, Bool, true, false, not, ◌&&◌, eqb, List, get_or, sym, refl, ap, ◌∙◌, subst, ⊎_elim, add-one, arith, below_more}
use lib.Bits.{bit_and}
use Rattle.std.proofs.lemmas.Bool.{eq-eqb, cases_Bool, eqb-true, and_from, and_parts, cond-true, cond-false}
use Rattle.ternary.specs.Bits.{bit}
use Rattle.ternary.proofs.BitLaws.{bit-bit_and}
use Rattle.column.specs.Bitmaps.{same, accepts, agrees, first_word, Put, Kept, Marked}
use Rattle.column.proofs.Bitwise.{low_digit}

-- one more column joined
pub join_more : (ws : List ℕ) (base p x k joined : ℕ) → bit joined p ≡ agrees ws base p x k
    → bit (bit_and joined (get_or ws (base + 2 * k + bit_and (x / 2 ^ k) 1) 0)) p ≡ agrees ws base p x (k + 1)
unfolding accepts
join_more ws base p x k joined e =
    let at : ℕ → ℕ = λ d. get_or ws (base + 2 * k + d) 0 in
    bit-bit_and joined (at (bit_and (x / 2 ^ k) 1)) p
    ∙ ap (λ (b : Bool). b && bit (at (bit_and (x / 2 ^ k) 1)) p) e
    ∙ ap (λ (d : ℕ). agrees ws base p x k && bit (at d) p) (low_digit x k)
    ∙ ap (agrees ws base p x) (sym (add-one k))

-- the bit that was written, and the others
put_here : (before after : List ℕ) (i place : ℕ) (on : Bool) → Put before after i place on → place < 64 → (q : ℕ) → q ≡ i → bit (get_or after q 0) place ≡ on
put_here before after i place on h l q e = h q place l ∙ cond-true (eqb q i && eqb place place) on _ (and_from (eqb q i) (eqb place place) (eq-eqb q i e) (eq-eqb place place refl))

put_else : (before after : List ℕ) (i place : ℕ) (on : Bool) → Put before after i place on → (q p : ℕ) → p < 64 → (q ≡ i → p ≡ place → ⊥)
    → bit (get_or after q 0) p ≡ bit (get_or before q 0) p
put_else before after i place on h q p l n =
    h q p l ∙ ⊎_elim
    (λ (t : (eqb q i && eqb p place) ≡ true). let b = and_parts (eqb q i) (eqb p place) t in absurd (n (eqb-true q i b.0) (eqb-true p place b.1)))
    (λ (f : (eqb q i && eqb p place) ≡ false). cond-false (eqb q i && eqb p place) on _ f)
    (cases_Bool (eqb q i && eqb p place))

-- two bits written, of the two words of key bit k: one more bit of the field is marked, and nothing else has changed
module _ (ws₀ ws ws₁ ws₂ : List ℕ) (base k place value mask : ℕ) (on₀ on₁ : Bool) (within : place < 64)
    (first : Put ws ws₁ (base + 2 * k) place on₀) (second : Put ws₁ ws₂ (base + 2 * k + 1) place on₁) where
  pub kept_more : Kept ws₀ ws base k place → Kept ws₀ ws₂ base (k + 1) place
  kept_more kept q p h n =
      put_else ws₁ ws₂ (base + 2 * k + 1) place on₁ second q p h (λ e. n (omega arith) (omega arith))
      ∙ put_else ws ws₁ (base + 2 * k) place on₀ first q p h (λ e. n (omega arith) (omega arith))
      ∙ kept q p h (λ l g. n l (omega arith))

  -- a word before these two keeps its bits
  earlier : (q : ℕ) → q < base + 2 * k → bit (get_or ws₂ q 0) place ≡ bit (get_or ws q 0) place
  earlier q l =
      put_else ws₁ ws₂ (base + 2 * k + 1) place on₁ second q place within (λ e _. omega arith)
      ∙ put_else ws ws₁ (base + 2 * k) place on₀ first q place within (λ e _. omega arith)

  pub marked_more : on₀ ≡ not (bit value k) → on₁ ≡ same (bit value k) (bit mask k)
      → Marked ws base k place value mask → Marked ws₂ base (k + 1) place value mask
  unfolding accepts
  marked_more e₀ e₁ marked =
      below_more _ k
      (λ j l. (earlier (base + 2 * j + 0) (omega arith) ∙ (marked j l).0, earlier (base + 2 * j + 1) (omega arith) ∙ (marked j l).1)) (
        put_else ws₁ ws₂ (base + 2 * k + 1) place on₁ second (base + 2 * k + 0) place within (λ e _. omega arith)
            ∙ put_here ws ws₁ (base + 2 * k) place on₀ first within (base + 2 * k + 0) (omega arith) ∙ e₀,
        put_here ws₁ ws₂ (base + 2 * k + 1) place on₁ second within (base + 2 * k + 1) refl ∙ e₁,
      )

-- marks of equal values and masks
pub marked_at : (ws : List ℕ) (base w place v m value mask : ℕ) → v ≡ value → m ≡ mask → Marked ws base w place v m → Marked ws base w place value mask
marked_at ws base w place v m value mask same_value same-mask marked =
    subst (λ (x : ℕ). Marked ws base w place value x) same-mask (subst (λ (x : ℕ). Marked ws base w place x m) same_value marked)

-- the code's marks of entry i written, and then the byte's
pub both_kept : (ws ws₁ ws₂ : List ℕ) (i : ℕ) → Kept ws ws₁ (first_word i) 16 (i % 64) → Kept ws₁ ws₂ (first_word i + 32) 8 (i % 64) → Kept ws ws₂ (first_word i) 24 (i % 64)
both_kept ws ws₁ ws₂ i by_code by_byte q p h n =
    by_byte q p h (λ a b e. n (omega arith) (omega arith) e) ∙ by_code q p h (λ a b e. n a (omega arith) e)

-- the byte's marks leave the code's
pub code-marked : (ws₁ ws₂ : List ℕ) (i value mask : ℕ) → Kept ws₁ ws₂ (first_word i + 32) 8 (i % 64) → Marked ws₁ (first_word i) 16 (i % 64) value mask → Marked ws₂ (first_word i) 16 (i % 64) value mask
unfolding accepts
code-marked ws₁ ws₂ i value mask by_byte marked k l =
    let place : i % 64 < 64 = omega arith in (
      by_byte (first_word i + 2 * k + 0) (i % 64) place (λ a b c. omega arith) ∙ (marked k l).0,
      by_byte (first_word i + 2 * k + 1) (i % 64) place (λ a b c. omega arith) ∙ (marked k l).1,
    )
