-- Entries with equal fields are equal.
use Rattle.std.proofs.Common.{◌≡◌}
use mathlib.Core.HLevel.{is_prop→PathP}
use native.Mathlib.Nat.{ℕ_set}
use lib.Bits.{bit_and}
use Rattle.ternary.specs.declared.entry.Entry.{Entry}

pub entry-same : (d e : Entry) → d.code_value ≡ e.code_value → d.code_mask ≡ e.code_mask → d.byte_value ≡ e.byte_value → d.byte_mask ≡ e.byte_mask → d.next ≡ e.next → d.class ≡ e.class → d ≡ e
entry-same d e v m bv bm n c = λ i. record {
  code_value = v i;
  code_mask = m i;
  byte_value = bv i;
  byte_mask = bm i;
  next = n i;
  class = c i;
  code_clear = is_prop→PathP (λ j. bit_and (v j) (m j) ≡ v j) (λ j. ℕ_set (bit_and (v j) (m j)) (v j)) d.code_clear e.code_clear i;
  byte_clear = is_prop→PathP (λ j. bit_and (bv j) (bm j) ≡ bv j) (λ j. ℕ_set (bit_and (bv j) (bm j)) (bv j)) d.byte_clear e.byte_clear i;
}
