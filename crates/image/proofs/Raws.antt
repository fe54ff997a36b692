-- An entry and its fields: each makes the other where no value has a bit under a star.
use Rattle.std.proofs.Common.{◌≡◌, ℕ, ◌+◌, ◌<◌, false, ◌&&◌, ltb, List, [], ◌∷◌, ◌++◌, map, length, get_or, is_some, None, sym, refl, ap, ◌∙◌}
use lib.Bits.{bit_and}
use Rattle.std.specs.List.{flat_map, AllByRecursion}
use Rattle.std.proofs.lemmas.List.{get_or-map}
use Rattle.std.proofs.lemmas.Bool.{and_parts, eqb-true, ltb-true}
use Rattle.ternary.specs.declared.entry.Entry.{Entry}
use Rattle.ternary.proofs.EntryLaws.{entry-same}
use Rattle.fields.specs.Fields.{check}
use Rattle.fields.proofs.Faults.{both_pass, check_pass}
use Rattle.image.specs.declared.raw.RawEntry.{RawEntry}
use Rattle.image.specs.Format.{entry_bytes, entry_from, raw_bytes, raw_of}
use Rattle.image.specs.Rules.{clear, raw_fault}

-- what fields with no fault keep
pub record Kept (limit : ℕ) (f : RawEntry) : Type 0 where
  pub code_small : f.code_value < limit
  pub code-clear : bit_and f.code_value f.code_mask ≡ f.code_value
  pub mask_small : f.code_mask < limit
  pub byte_clear : bit_and f.byte_value f.byte_mask ≡ f.byte_value
  pub next_small : f.next.0 < limit

pub kept : (limit at : ℕ) (f : RawEntry) → is_some (raw_fault limit at f) ≡ false → Kept limit f
kept limit at f h =
    let a = both_pass (check (ltb f.code_value limit && clear f.code_value f.code_mask) at) _ h in
    let b = both_pass (check (ltb f.code_mask limit) (at + 2)) _ a.1 in
    let d = both_pass (check (clear f.byte_value f.byte_mask) (at + 4)) _ b.1 in
    let e = both_pass (check (ltb f.next.0 limit) (at + 6)) None d.1 in
    let value = and_parts (ltb f.code_value limit) (clear f.code_value f.code_mask) (check_pass _ _ a.0) in
    record {
      code_small = ltb-true f.code_value limit value.0;
      code-clear = eqb-true (bit_and f.code_value f.code_mask) f.code_value value.1;
      mask_small = ltb-true f.code_mask limit (check_pass _ _ b.0);
      byte_clear = eqb-true (bit_and f.byte_value f.byte_mask) f.byte_value (check_pass _ _ d.0);
      next_small = ltb-true f.next.0 limit (check_pass _ _ e.0);
    }

-- the entry with the fields of an entry is that entry
pub entry_again : (e : Entry) → entry_from (raw_of e) ≡ e
entry_again e = entry-same (entry_from (raw_of e)) e e.code_clear refl e.byte_clear refl refl refl

pub entries_again : (es : List Entry) → map entry_from (map raw_of es) ≡ es
entries_again [] = refl
entries_again (e ∷ es) = λ i. entry_again e i ∷ entries_again es i

-- the fields of the entry with some fields are those fields
pub raw_again : (limit : ℕ) (f : RawEntry) → Kept limit f → raw_of (entry_from f) ≡ f
raw_again limit f k = λ i. record {
  code_value = k.code-clear i;
  code_mask = f.code_mask;
  byte_value = k.byte_clear i;
  byte_mask = f.byte_mask;
  next = f.next;
  class = f.class;
}

pub raws_again : (limit : ℕ) (fs : List RawEntry) → AllByRecursion (Kept limit) fs → map raw_of (map entry_from fs) ≡ fs
raws_again limit [] all = refl
raws_again limit (f ∷ fs) all = λ i. raw_again limit f all.0 i ∷ raws_again limit fs all.1 i

-- the bytes of entries are the bytes of their fields
pub entry_bytes_lem : (es : List Entry) → flat_map entry_bytes es ≡ flat_map raw_bytes (map raw_of es)
entry_bytes_lem [] = refl
entry_bytes_lem (e ∷ es) = ap (λ (l : List ℕ). entry_bytes e ++ l) (entry_bytes_lem es)

-- the fields of the entry at a place
pub raw_at_lem : (es : List Entry) (i : ℕ) (e : Entry) → i < length es → e ≡ get_or es i e → raw_of e ≡ get_or (map raw_of es) i (raw_of e)
raw_at_lem es i e lt is = ap raw_of is ∙ sym (get_or-map raw_of es i e (raw_of e) lt)
