-- The rules that parts with no fault keep, as facts.
use Rattle.std.proofs.Common.{◌≡◌, ℕ, ◌+◌, ◌*◌, ◌^◌, ◌<◌, ◌≤◌, Bool, ◌&&◌, ltb, leb, List, [], ◌∷◌, map, length, is_some, None, Option, refl, ap, ◌∙◌, ap₂}
use lib.Bits.{bit_and}
use Rattle.std.specs.List.{AllByRecursion}
use Rattle.std.proofs.lemmas.Bool.{leb-true, ltb-true, le-leb, lt-ltb, eq-eqb, and_parts, and_from}
use Rattle.fields.specs.Fields.{check, each_fault, or_else}
use Rattle.fields.proofs.Faults.{both_pass, check_pass, each_pass, pass}
use Rattle.pair_image.specs.declared.raw.RawPair.{RawPair}
use Rattle.pair_image.specs.Format.{Parts, raw_of}
use Rattle.pair_image.specs.Rules.{clear, is_stride, code_fault, header_fault, items_fault, parts_fault, raw_fault}
use Rattle.pair_image.proofs.Raws.{Kept, kept}

pub record Ruled (p : Parts) : Type 0 where
  pub wide : p.width ≤ 16
  pub some : 1 ≤ length p.codes
  pub states : length p.codes ≤ 512
  pub start : p.start.0 < length p.codes
  pub entries : length p.entries ≤ 4096
  pub code : AllByRecursion (λ c. c.0 < 2 ^ p.width) p.codes
  pub raw : AllByRecursion (Kept (2 ^ p.width)) (map raw_of p.entries)

pub ruled : (p : Parts) → parts_fault p ≡ None → Ruled p
ruled p none =
    let n : ℕ = length p.codes in
    let m : ℕ = length p.entries in
    let raws : List RawPair = map raw_of p.entries in
    let all = both_pass (header_fault p.width n p.start.0 m) (items_fault p.width p.codes raws) (ap is_some none) in
    let a = both_pass (check (leb p.width 16) 5) _ all.0 in
    let b = both_pass (check (leb 1 n && leb n 512) 6) _ a.1 in
    let d = both_pass (check (ltb p.start.0 n) 8) _ b.1 in
    let e = both_pass (check (leb m 4096) 10) None d.1 in
    let count = and_parts (leb 1 n) (leb n 512) (check_pass _ _ b.0) in
    let items = both_pass (each_fault (code_fault (2 ^ p.width)) 2 12 p.codes) (each_fault (raw_fault (2 ^ p.width)) 12 (12 + 2 * n) raws) all.1 in
    record {
      wide = leb-true p.width 16 (check_pass _ _ a.0);
      some = leb-true 1 n count.0;
      states = leb-true n 512 count.1;
      start = ltb-true p.start.0 n (check_pass _ _ d.0);
      entries = leb-true m 4096 (check_pass _ _ e.0);
      code = each_pass (λ c. c.0 < 2 ^ p.width) (code_fault (2 ^ p.width)) 2 (λ at c h. ltb-true c.0 (2 ^ p.width) (check_pass _ _ h)) 12 p.codes items.0;
      raw = each_pass (Kept (2 ^ p.width)) (raw_fault (2 ^ p.width)) 12 (kept (2 ^ p.width)) (12 + 2 * n) raws items.1;
    }

-- and back: parts that keep the rules have no fault
each_none : {X : Type 0} (P : X → Type 0) (f : ℕ → X → Option ℕ) (step : ℕ) → ((at : ℕ) (x : X) → P x → f at x ≡ None) → (at : ℕ) (xs : List X) → AllByRecursion P xs → each_fault f step at xs ≡ None
each_none P f step one at [] all = refl
each_none P f step one at (x ∷ xs) all = ap₂ or_else (one at x all.0) (each_none P f step one (at + step) xs all.1)

raw_none : (limit at : ℕ) (f : RawPair) → Kept limit f → raw_fault limit at f ≡ None
raw_none limit at f k =
    pass (ltb f.code_value limit && clear f.code_value f.code_mask) at _
    (and_from _ _ (lt-ltb f.code_value limit k.code_small) (eq-eqb (bit_and f.code_value f.code_mask) f.code_value k.code-clear))
    ∙ pass (ltb f.code_mask limit) (at + 2) _ (lt-ltb f.code_mask limit k.mask_small)
    ∙ pass (clear f.byte_value f.byte_mask) (at + 4) _ (eq-eqb (bit_and f.byte_value f.byte_mask) f.byte_value k.byte_clear)
    ∙ pass (clear f.second_value f.second_mask) (at + 6) _ (eq-eqb (bit_and f.second_value f.second_mask) f.second_value k.second_clear)
    ∙ pass (ltb f.next.0 limit) (at + 8) _ (lt-ltb f.next.0 limit k.next_small)
    ∙ pass (is_stride f.stride) (at + 11) None k.stride_ok

pub unfaulted : (p : Parts) → Ruled p → parts_fault p ≡ None
unfaulted p rules =
    let n : ℕ = length p.codes in
    let m : ℕ = length p.entries in
    let raws : List RawPair = map raw_of p.entries in
    let header : header_fault p.width n p.start.0 m ≡ None =
    pass (leb p.width 16) 5 _ (le-leb p.width 16 rules.wide)
    ∙ pass (leb 1 n && leb n 512) 6 _ (and_from _ _ (le-leb 1 n rules.some) (le-leb n 512 rules.states))
    ∙ pass (ltb p.start.0 n) 8 _ (lt-ltb p.start.0 n rules.start)
    ∙ pass (leb m 4096) 10 None (le-leb m 4096 rules.entries) in
    let items : items_fault p.width p.codes raws ≡ None =
    ap₂ or_else
    (each_none (λ c. c.0 < 2 ^ p.width) (code_fault (2 ^ p.width)) 2 (λ at c h. ap (λ (ok : Bool). check ok at) (lt-ltb c.0 (2 ^ p.width) h)) 12 p.codes rules.code)
    (each_none (Kept (2 ^ p.width)) (raw_fault (2 ^ p.width)) 12 (raw_none (2 ^ p.width)) (12 + 2 * n) raws rules.raw) in
    ap₂ or_else header items
