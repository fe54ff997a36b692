-- An entry and its fields: each makes the other where no value has a bit under a star.
use Rattle.std.proofs.Common.{◌≡◌, ℕ, ◌+◌, ◌<◌, Bool, true, cond, ◌||◌, eqb, sym, ◌∙◌, ⊎_elim, false, ◌&&◌, ltb, List, [], ◌∷◌, ◌++◌, map, is_some, None, refl, ap}
use lib.Bits.{bit_and}
use Rattle.std.specs.List.{flat_map, AllByRecursion}
use Rattle.std.proofs.lemmas.Bool.{and_parts, eqb-true, ltb-true, ne_eqb, cases_eq}
use Rattle.pairs.specs.declared.pair.PairEntry.{PairEntry}
use Rattle.ternary.proofs.EntryLaws.{entry-same}
use Rattle.pairs.proofs.PairLaws.{pair-same}
use Rattle.pairs.specs.declared.stride.Stride.{Stride}
use Rattle.pairs.specs.declared.stride.Stride.TheVariants.{One, Two}
use Rattle.pairs.specs.Strides as strides
use Rattle.fields.specs.Fields.{check}
use Rattle.fields.proofs.Faults.{both_pass, check_pass}
use Rattle.pair_image.specs.declared.raw.RawPair.{RawPair}
use Rattle.pair_image.specs.Format.{entry_bytes, entry_from, raw_bytes, raw_of, stride_of}
use Rattle.pair_image.specs.Rules.{clear, is_stride, raw_fault}

or_false : (b : Bool) → b || false ≡ b
or_false true = refl
or_false false = refl

-- what fields with no fault keep
pub record Kept (limit : ℕ) (f : RawPair) : Type 0 where
  pub code_small : f.code_value < limit
  pub code-clear : bit_and f.code_value f.code_mask ≡ f.code_value
  pub mask_small : f.code_mask < limit
  pub byte_clear : bit_and f.byte_value f.byte_mask ≡ f.byte_value
  pub second_clear : bit_and f.second_value f.second_mask ≡ f.second_value
  pub next_small : f.next.0 < limit
  pub stride_ok : is_stride f.stride ≡ true

pub kept : (limit at : ℕ) (f : RawPair) → is_some (raw_fault limit at f) ≡ false → Kept limit f
kept limit at f h =
    let a = both_pass (check (ltb f.code_value limit && clear f.code_value f.code_mask) at) _ h in
    let b = both_pass (check (ltb f.code_mask limit) (at + 2)) _ a.1 in
    let d = both_pass (check (clear f.byte_value f.byte_mask) (at + 4)) _ b.1 in
    let s = both_pass (check (clear f.second_value f.second_mask) (at + 6)) _ d.1 in
    let e = both_pass (check (ltb f.next.0 limit) (at + 8)) _ s.1 in
    let z = both_pass (check (is_stride f.stride) (at + 11)) None e.1 in
    let value = and_parts (ltb f.code_value limit) (clear f.code_value f.code_mask) (check_pass _ _ a.0) in
    record {
      code_small = ltb-true f.code_value limit value.0;
      code-clear = eqb-true (bit_and f.code_value f.code_mask) f.code_value value.1;
      mask_small = ltb-true f.code_mask limit (check_pass _ _ b.0);
      byte_clear = eqb-true (bit_and f.byte_value f.byte_mask) f.byte_value (check_pass _ _ d.0);
      second_clear = eqb-true (bit_and f.second_value f.second_mask) f.second_value (check_pass _ _ s.0);
      next_small = ltb-true f.next.0 limit (check_pass _ _ e.0);
      stride_ok = check_pass _ _ z.0;
    }

-- the stride of the bytes of a stride is that stride
stride_back : (s : Stride) → stride_of (strides.bytes s) ≡ s
stride_back One = refl
stride_back Two = refl

-- and the bytes of the stride of 1 or 2 are that number
bytes_back : (n : ℕ) → is_stride n ≡ true → strides.bytes (stride_of n) ≡ n
bytes_back n ok = ⊎_elim
    (λ (two : n ≡ 2). ap (λ k. strides.bytes (stride_of k)) two ∙ sym two)
    (λ (other : n ≡ 2 → ⊥).
    let no : eqb n 2 ≡ false = ne_eqb n 2 other in
    let one : n ≡ 1 = eqb-true n 1 (sym (or_false (eqb n 1)) ∙ ap (λ t. eqb n 1 || t) (sym no) ∙ ok) in
    ap (λ t. strides.bytes (cond t Two One)) no ∙ sym one)
    (cases_eq n 2)

-- the entry with the fields of an entry is that entry
pub entry_again : (e : PairEntry) → entry_from (raw_of e) ≡ e
entry_again e = pair-same (entry_from (raw_of e)) e (entry-same (entry_from (raw_of e)).entry e.entry e.entry.code_clear refl e.entry.byte_clear refl refl refl) e.second_clear refl (stride_back e.stride)

pub entries_again : (es : List PairEntry) → map entry_from (map raw_of es) ≡ es
entries_again [] = refl
entries_again (e ∷ es) = λ i. entry_again e i ∷ entries_again es i

-- the fields of the entry with some fields are those fields
pub raw_again : (limit : ℕ) (f : RawPair) → Kept limit f → raw_of (entry_from f) ≡ f
raw_again limit f k = λ i. record {
  code_value = k.code-clear i;
  code_mask = f.code_mask;
  byte_value = k.byte_clear i;
  byte_mask = f.byte_mask;
  second_value = k.second_clear i;
  second_mask = f.second_mask;
  next = f.next;
  class = f.class;
  stride = bytes_back f.stride k.stride_ok i;
}

pub raws_again : (limit : ℕ) (fs : List RawPair) → AllByRecursion (Kept limit) fs → map raw_of (map entry_from fs) ≡ fs
raws_again limit [] all = refl
raws_again limit (f ∷ fs) all = λ i. raw_again limit f all.0 i ∷ raws_again limit fs all.1 i

-- the bytes of entries are the bytes of their fields
pub entry_bytes_lem : (es : List PairEntry) → flat_map entry_bytes es ≡ flat_map raw_bytes (map raw_of es)
entry_bytes_lem [] = refl
entry_bytes_lem (e ∷ es) = ap (λ (l : List ℕ). entry_bytes e ++ l) (entry_bytes_lem es)
