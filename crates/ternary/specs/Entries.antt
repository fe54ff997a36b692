-- Entries made from their fields. Assumes nothing.
use Rattle.std.specs.Prelude.{◌≡◌, ℕ, ◌+◌, ◌*◌, ◌/◌, ◌%◌, min, bit_and, refl}
use Rattle.std.proofs.Common.{sym, ap, ◌∙◌, arith}
use Rattle.std.proofs.Math.Arith.{bin_ind}
use Rattle.std.specs.Int.Bits.{and_step}
use Rattle.ternary.specs.declared.entry.Entry.{Entry}
use Rattle.ternary.specs.declared.words.StateCode.{StateCode}

-- a mask leaves what it has left
pub and_again : (value mask : ℕ) → bit_and (bit_and value mask) mask ≡ bit_and value mask
and_again =
    bin_ind (λ (v : ℕ). (m : ℕ) → bit_and (bit_and v m) m ≡ bit_and v m) (λ m. refl)
    (λ v again m.
    let x : ℕ = bit_and v m in
    let high : ℕ = bit_and (v / 2) (m / 2) in
    let step : x ≡ high * 2 + min (v % 2) (m % 2) = and_step v m in
    let half : x / 2 ≡ high = omega arith in
    let low : min (x % 2) (m % 2) ≡ min (v % 2) (m % 2) = omega arith in
    and_step x m ∙ (ap (λ (h : ℕ). bit_and h (m / 2) * 2 + min (x % 2) (m % 2)) half
    ∙ ((λ i. again (m / 2) i * 2 + low i) ∙ sym step)))

-- the entry with these masks, its values cleared under the stars
abbrev pub entry_of : ℕ → ℕ → ℕ → ℕ → StateCode → ℕ → Entry
entry_of code_value code_mask byte_value byte_mask next class = record {
  code_value = bit_and code_value code_mask;
  code_mask = code_mask;
  byte_value = bit_and byte_value byte_mask;
  byte_mask = byte_mask;
  next = next;
  class = class;
  code_clear = and_again code_value code_mask;
  byte_clear = and_again byte_value byte_mask;
}
