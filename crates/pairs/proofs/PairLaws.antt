-- Two-byte entries with equal fields are equal.
use Rattle.std.proofs.Common.{◌≡◌}
use mathlib.Core.HLevel.{is_prop→PathP}
use native.Mathlib.Nat.{ℕ_set}
use lib.Bits.{bit_and}
use Rattle.pairs.specs.declared.pair.PairEntry.{PairEntry}

pub pair-same : (d e : PairEntry) → d.entry ≡ e.entry → d.second_value ≡ e.second_value → d.second_mask ≡ e.second_mask → d.stride ≡ e.stride → d ≡ e
pair-same d e one v m s = λ i. record {
  entry = one i;
  second_value = v i;
  second_mask = m i;
  stride = s i;
  second_clear = is_prop→PathP (λ j. bit_and (v j) (m j) ≡ v j) (λ j. ℕ_set (bit_and (v j) (m j)) (v j)) d.second_clear e.second_clear i;
}
