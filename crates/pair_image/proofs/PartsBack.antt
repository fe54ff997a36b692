-- The image of parts that keep the rules has no fault and says those parts.
use Rattle.std.proofs.Common.{◌≡◌, ℕ, ◌+◌, ◌-◌, ◌*◌, ◌/◌, ◌%◌, ◌^◌, ◌<◌, ◌≤◌, eqb, List, [], ◌++◌, map, length, get_or, is_some, None, Option, sym, refl, ap, ◌∙◌, append_assoc, append-nil, arith, length-append, pow_mono}
use Rattle.std.specs.List.{range_with_len, flat_map}
use Rattle.std.proofs.lemmas.List.FromFn.{fill_by_all}
use Rattle.std.proofs.ByRecursion.{All-get_or}
use Rattle.std.proofs.lemmas.List.{length-map}
use Rattle.std.proofs.lemmas.Bool.{eq-eqb}
use Rattle.ternary.specs.declared.words.StateCode.{StateCode}
use Rattle.fields.specs.Fields.{word, long, or_else, check}
use Rattle.fields.proofs.Bytes.{be16_back, be32_back, byte_of_item}
use Rattle.fields.proofs.Faults.{both_pass, none_from, pass}
use Rattle.pair_image.proofs.Frames.{frame_passed}
use Rattle.fields.proofs.Writes.{length_joined}
use Rattle.pair_image.specs.declared.raw.RawPair.{RawPair}
use Rattle.pair_image.specs.Format.{Parts, code_at, code_bytes, codes_in, decode, encode, entry_bytes, entry_from, fields_at, raw_at, raw_bytes, raw_of, raws_in, size}
use Rattle.pair_image.specs.Rules.{fault, header_fault, items_fault, parts_fault}
use Rattle.pair_image.proofs.Packs.{head_of, length-encode}
use Rattle.pair_image.proofs.Raws.{Kept, entries_again, entry_bytes_lem}
use Rattle.pair_image.proofs.Ruled.{Ruled, ruled}

below_limit : (w x : ℕ) → w ≤ 16 → x < 2 ^ w → x < 65536
below_limit w x h lt = let top : 2 ^ w ≤ 2 ^ 16 = pow_mono h in omega arith

module _ (p : Parts) (rules : Ruled p) where
  code_read : (k : ℕ) (d : StateCode) → k < length p.codes → get_or p.codes k d ≡ code_at (encode p) k
  code_read k d h =
      let c : StateCode = get_or p.codes k d in
      let read : (j at : ℕ) → j < 2 → at ≡ 12 + 2 * k + j → get_or (encode p) at 0 ≡ get_or (code_bytes c) j 0 =
      λ j at lt e. byte_of_item code_bytes 2 (λ _. refl) (head_of p) (flat_map entry_bytes p.entries) p.codes k j at d h lt e in
      let high : get_or (encode p) (12 + 2 * k) 0 ≡ c.0 / 256 % 256 = read 0 (12 + 2 * k) (omega arith) (omega arith) in
      let low : get_or (encode p) (12 + 2 * k + 1) 0 ≡ c.0 % 256 = read 1 (12 + 2 * k + 1) (omega arith) (omega arith) in
      let fits : c.0 < 65536 = below_limit p.width c.0 rules.wide (All-get_or (λ (x : StateCode). x.0 < 2 ^ p.width) p.codes k d h rules.code) in
      let back : c.0 ≡ word (encode p) (12 + 2 * k) = sym (be16_back c.0 fits) ∙ (λ i. sym high i * 256 + sym low i) in
      λ i. record { 0 = back i }

  raw_read : (k : ℕ) (d : RawPair) → k < length (map raw_of p.entries) → get_or (map raw_of p.entries) k d ≡ raw_at (encode p) (length p.codes) k
  raw_read k d h =
      let raws : List RawPair = map raw_of p.entries in
      let f : RawPair = get_or raws k d in
      let n : ℕ = length p.codes in
      let at : ℕ = size n k in
      let codes : List ℕ = flat_map code_bytes p.codes in
      let bytes : List ℕ = flat_map raw_bytes raws in
      let split : encode p ≡ (head_of p ++ codes) ++ (bytes ++ []) =
      ap (λ (l : List ℕ). head_of p ++ (codes ++ l)) (entry_bytes_lem p.entries ∙ sym (append-nil bytes)) ∙ sym (append_assoc (head_of p) codes (bytes ++ [])) in
      let long = length_joined code_bytes 2 (λ _. refl) p.codes in
      let read : (j there : ℕ) → j < 12 → there ≡ at + j → get_or (encode p) there 0 ≡ get_or (raw_bytes f) j 0 =
      λ j there lt is. ap (λ (l : List ℕ). get_or l there 0) split
      ∙ byte_of_item raw_bytes 12 (λ _. refl) (head_of p ++ codes) [] raws k j there d h lt (omega (arith, length-append (head_of p) codes)) in
      let word_read : (x j there : ℕ) → x < 2 ^ p.width → there ≡ at + j → get_or (raw_bytes f) j 0 ≡ x / 256 % 256 → get_or (raw_bytes f) (j + 1) 0 ≡ x % 256 → j < 11 → x ≡ word (encode p) there =
      λ x j there small is high low lt.
      let high_read : x / 256 % 256 ≡ get_or (encode p) there 0 = sym (read j there (omega arith) is ∙ high) in
      let low_read : x % 256 ≡ get_or (encode p) (there + 1) 0 = sym (read (j + 1) (there + 1) (omega arith) (omega arith) ∙ low) in
      sym (be16_back x (below_limit p.width x rules.wide small)) ∙ (λ i. high_read i * 256 + low_read i) in
      let keeps = All-get_or (Kept (2 ^ p.width)) raws k d h rules.raw in
      let value = word_read f.code_value 0 at keeps.code_small (omega arith) refl refl (omega arith) in
      let mask = word_read f.code_mask 2 (at + 2) keeps.mask_small (omega arith) refl refl (omega arith) in
      let next = word_read f.next.0 8 (at + 8) keeps.next_small (omega arith) refl refl (omega arith) in
      let byte_value_lem : f.byte_value ≡ get_or (encode p) (at + 4) 0 = sym (read 4 (at + 4) (omega arith) (omega arith)) in
      let byte_mask_lem : f.byte_mask ≡ get_or (encode p) (at + 5) 0 = sym (read 5 (at + 5) (omega arith) (omega arith)) in
      let second_value_lem : f.second_value ≡ get_or (encode p) (at + 6) 0 = sym (read 6 (at + 6) (omega arith) (omega arith)) in
      let second_mask_lem : f.second_mask ≡ get_or (encode p) (at + 7) 0 = sym (read 7 (at + 7) (omega arith) (omega arith)) in
      let class : f.class ≡ get_or (encode p) (at + 10) 0 = sym (read 10 (at + 10) (omega arith) (omega arith)) in
      let stride : f.stride ≡ get_or (encode p) (at + 11) 0 = sym (read 11 (at + 11) (omega arith) (omega arith)) in
      λ i. record {
        code_value = value i;
        code_mask = mask i;
        byte_value = byte_value_lem i;
        byte_mask = byte_mask_lem i;
        second_value = second_value_lem i;
        second_mask = second_mask_lem i;
        next = record { 0 = next i };
        class = class i;
        stride = stride i;
      }

  n_is : word (encode p) 6 ≡ length p.codes
  n_is = be16_back (length p.codes) (omega (arith, rules.states))

  start_is : word (encode p) 8 ≡ p.start.0
  start_is = be16_back p.start.0 (omega (arith, rules.start, rules.states))

  m_is : word (encode p) 10 ≡ length p.entries
  m_is = be16_back (length p.entries) (omega (arith, rules.entries))

  codes_read : codes_in (encode p) ≡ p.codes
  codes_read =
      let none : StateCode = record { 0 = 0 } in
      ap (λ (k : ℕ). map (code_at (encode p)) (range_with_len 0 k)) n_is
      ∙ sym (fill_by_all (code_at (encode p)) p.codes (length p.codes) none refl (λ k h. code_read k none h))

  raws_read : raws_in (encode p) ≡ map raw_of p.entries
  raws_read =
      let none : RawPair = fields_at [] 0 in
      let long = length-map p.entries raw_of in
      (λ i. map (raw_at (encode p) (n_is i)) (range_with_len 0 (m_is i)))
      ∙ sym (fill_by_all (raw_at (encode p) (length p.codes)) (map raw_of p.entries) (length p.entries) none long (λ k h. raw_read k none (omega arith)))

  decode-encode : decode (encode p) ≡ p
  decode-encode =
      let entries : map entry_from (raws_in (encode p)) ≡ p.entries = ap (map entry_from) raws_read ∙ entries_again p.entries in
      λ i. record { width = p.width; start = record { 0 = start_is i }; codes = codes_read i; entries = entries i }

  fault-encode : parts_fault p ≡ None → fault (encode p) ≡ None
  fault-encode none =
      let bs : List ℕ = encode p in
      let n : ℕ = length p.codes in
      let m : ℕ = length p.entries in
      let long_is : long bs 1 ≡ size n m - 5 = be32_back (size n m - 5) (omega (arith, rules.states, rules.entries)) in
      let len = length-encode p in
      let parts = both_pass (header_fault p.width n p.start.0 m) (items_fault p.width p.codes (map raw_of p.entries)) (ap is_some none) in
      let header : header_fault p.width (word bs 6) (word bs 8) (word bs 10) ≡ None =
      (λ i. header_fault p.width (n_is i) (start_is i) (m_is i)) ∙ none_from _ parts.0 in
      let items : items_fault p.width (codes_in bs) (raws_in bs) ≡ None =
      (λ i. items_fault p.width (codes_read i) (raws_read i)) ∙ none_from _ parts.1 in
      frame_passed 7 bs _ (record { room = omega arith; version = refl; size = long_is ∙ ap (λ (k : ℕ). k - 5) (sym len) })
      ∙ (ap (λ (f : Option ℕ). or_else f (or_else (check (eqb (length bs) (size (word bs 6) (word bs 10))) 12) (or_else (items_fault p.width (codes_in bs) (raws_in bs)) None))) header
      ∙ (pass (eqb (length bs) (size (word bs 6) (word bs 10))) 12 _ (eq-eqb (length bs) (size (word bs 6) (word bs 10)) (len ∙ (λ i. size (sym n_is i) (sym m_is i))))
      ∙ ap (λ (f : Option ℕ). or_else f None) items))

pub parts_back : (p : Parts) → parts_fault p ≡ None → (fault (encode p) ≡ None) × (decode (encode p) ≡ p)
parts_back p none = let rules = ruled p none in (fault-encode p rules none, decode-encode p rules)
