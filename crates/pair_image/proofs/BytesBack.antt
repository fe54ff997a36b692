-- The parts of an image with no fault keep the rules and pack to the same bytes.
use Rattle.std.proofs.Common.{◌≡◌, ℕ, ◌+◌, ◌-◌, ◌*◌, ◌^◌, ◌<◌, ◌≤◌, false, eqb, List, [], ◌∷◌, ◌++◌, map, length, get_or, take, drop, is_some, None, Option, sym, ap, ◌∙◌, add-zero, arith, length-drop, take-append-drop, length-take, get_or-drop, get_or-take}
use Rattle.std.specs.List.{range_with_len, flat_map, AllByRecursion}
use Rattle.std.proofs.lemmas.List.FromFn.{length-map-range_with_len, fill_by_all}
use Rattle.std.proofs.lemmas.List.{drop-drop, take_all, length-map}
use Rattle.std.proofs.lemmas.Bool.{eqb-true}
use Rattle.fields.specs.Fields.{word, long, be16, be32, check, or_else, each_fault}
use Rattle.fields.proofs.Bytes.{be16_read, be32_read, joined_made}
use Rattle.fields.proofs.Faults.{both_pass, check_pass, none_from, each_pass}
use Rattle.pair_image.proofs.Frames.{Framed, framed}
use Rattle.pair_image.specs.Format.{code_at, code_bytes, codes_in, decode, encode, entry_from, header_bytes, raw_at, raw_bytes, raws_in, size}
use Rattle.pair_image.specs.Rules.{pair_frame_fault, code_fault, fault, header_fault, items_fault, parts_fault, raw_fault}
use Rattle.pair_image.proofs.Raws.{Kept, kept, raws_again, entry_bytes_lem}

-- the rules of an image, as facts
record Sound (bs : List ℕ) : Type 0 where
  frame : Framed 7 bs
  header : is_some (header_fault (get_or bs 5 0) (word bs 6) (word bs 8) (word bs 10)) ≡ false
  fits : length bs ≡ size (word bs 6) (word bs 10)
  items : is_some (items_fault (get_or bs 5 0) (codes_in bs) (raws_in bs)) ≡ false

sound : (bs : List ℕ) → is_some (fault bs) ≡ false → Sound bs
sound bs h =
    let d = both_pass (pair_frame_fault 7 bs) _ h in
    let e = both_pass (header_fault (get_or bs 5 0) (word bs 6) (word bs 8) (word bs 10)) _ d.1 in
    let f = both_pass (check (eqb (length bs) (size (word bs 6) (word bs 10))) 12) _ e.1 in
    let g = both_pass (items_fault (get_or bs 5 0) (codes_in bs) (raws_in bs)) None f.1 in
    record {
      frame = framed 7 bs d.0;
      header = e.0;
      fits = eqb-true (length bs) (size (word bs 6) (word bs 10)) (check_pass _ _ f.0);
      items = g.0;
    }

-- some bytes, one by one
bytes_from : (bs : List ℕ) (n at : ℕ) → at + n ≤ length bs → take n (drop at bs) ≡ map (λ (k : ℕ). get_or bs (at + k) 0) (range_with_len 0 n)
bytes_from bs n at h =
    fill_by_all (λ (k : ℕ). get_or bs (at + k) 0) (take n (drop at bs)) n 0 (simp (length-take, length-drop) (omega arith))
    (λ k lt. get_or-take n (drop at bs) k 0 lt ∙ get_or-drop at bs k 0)

-- the bytes of what was read are the bytes that it was read from
module _ (bs : List ℕ) (small : (k : ℕ) → get_or bs k 0 < 256) where
  word_bytes : (at : ℕ) → be16 (word bs at) ≡ get_or bs at 0 ∷ get_or bs (at + 1) 0 ∷ []
  word_bytes at = be16_read (get_or bs at 0) (get_or bs (at + 1) 0) (small at) (small (at + 1))

  states : length (codes_in bs) ≡ word bs 6
  states = length-map-range_with_len (code_at bs) 0 (word bs 6)

  entries : length (map entry_from (raws_in bs)) ≡ word bs 10
  entries = length-map (raws_in bs) entry_from ∙ length-map-range_with_len (raw_at bs (word bs 6)) 0 (word bs 10)

  code_back : (k : ℕ) → 12 + 2 * k + 2 ≤ length bs → code_bytes (code_at bs k) ≡ take 2 (drop (12 + 2 * k) bs)
  code_back k h =
      let at : ℕ = 12 + 2 * k in
      word_bytes at ∙ (ap (λ (j : ℕ). get_or bs j 0 ∷ get_or bs (at + 1) 0 ∷ []) (sym (add-zero at)) ∙ sym (bytes_from bs 2 at h))

  raw_back : (n k : ℕ) → size n k + 12 ≤ length bs → raw_bytes (raw_at bs n k) ≡ take 12 (drop (size n k) bs)
  raw_back n k h =
      let at : ℕ = size n k in
      let v = word_bytes at in
      let m = word_bytes (at + 2) in
      let s = word_bytes (at + 8) in
      let start : at ≡ at + 0 = omega arith in
      let mask : at + 2 + 1 ≡ at + 3 = omega arith in
      let next : at + 8 + 1 ≡ at + 9 = omega arith in
      (λ i. v i ++ (m i ++ (get_or bs (at + 4) 0 ∷ get_or bs (at + 5) 0 ∷ get_or bs (at + 6) 0 ∷ get_or bs (at + 7) 0 ∷ s i ++ (get_or bs (at + 10) 0 ∷ get_or bs (at + 11) 0 ∷ []))))
      ∙ ((λ i. get_or bs (start i) 0 ∷ get_or bs (at + 1) 0 ∷ get_or bs (at + 2) 0 ∷ get_or bs (mask i) 0 ∷ get_or bs (at + 4) 0 ∷ get_or bs (at + 5) 0 ∷ get_or bs (at + 6) 0 ∷ get_or bs (at + 7) 0 ∷ get_or bs (at + 8) 0 ∷ get_or bs (next i) 0 ∷ get_or bs (at + 10) 0 ∷ get_or bs (at + 11) 0 ∷ [])
      ∙ sym (bytes_from bs 12 at h))

  header_back : Sound bs → header_bytes (get_or bs 5 0) (word bs 6) (word bs 8) (word bs 10) ≡ take 12 bs
  header_back h =
      let version : 3 ≡ get_or bs 0 0 = sym h.frame.version in
      let rest : size (word bs 6) (word bs 10) - 5 ≡ long bs 1 = ap (λ (k : ℕ). k - 5) (sym h.fits) ∙ sym h.frame.size in
      let l : be32 (size (word bs 6) (word bs 10) - 5) ≡ get_or bs 1 0 ∷ get_or bs 2 0 ∷ get_or bs 3 0 ∷ get_or bs 4 0 ∷ [] =
      ap be32 rest ∙ be32_read (get_or bs 1 0) (get_or bs 2 0) (get_or bs 3 0) (get_or bs 4 0) (small 1) (small 2) (small 3) (small 4) in
      let n = word_bytes 6 in
      let s = word_bytes 8 in
      let m = word_bytes 10 in
      (λ i. version i ∷ l i ++ (get_or bs 5 0 ∷ n i ++ (s i ++ m i)))
      ∙ sym (bytes_from bs 12 0 h.frame.room)

  -- the header, the codes and the entries, one after another
  encode-decode : Sound bs → AllByRecursion (Kept (2 ^ get_or bs 5 0)) (raws_in bs) → encode (decode bs) ≡ bs
  encode-decode h all =
      let n : ℕ = word bs 6 in
      let m : ℕ = word bs 10 in
      let fits : length bs ≡ 12 + 2 * n + 12 * m = h.fits in
      let head = (λ i. header_bytes (get_or bs 5 0) (states i) (word bs 8) (entries i)) ∙ header_back h in
      let codes : flat_map code_bytes (codes_in bs) ≡ take (2 * n) (drop 12 bs) =
      joined_made code_bytes (code_at bs) bs 12 2 n 0 (λ k lt. code_back k (omega arith)) in
      let raws : flat_map raw_bytes (raws_in bs) ≡ take (12 * m) (drop (12 + 2 * n + 0) bs) =
      joined_made raw_bytes (raw_at bs n) bs (12 + 2 * n) 12 m 0 (λ k lt. raw_back n k (omega arith)) in
      let rest : take (12 * m) (drop (12 + 2 * n + 0) bs) ≡ drop (2 * n) (drop 12 bs) =
      ap (λ (k : ℕ). take (12 * m) (drop k bs)) (add-zero (12 + 2 * n))
      ∙ (take_all (12 * m) (drop (12 + 2 * n) bs) (rw length-drop (omega arith)) ∙ sym (drop-drop (2 * n) 12 bs)) in
      let tail = entry_bytes_lem (map entry_from (raws_in bs)) ∙ (ap (flat_map raw_bytes) (raws_again (2 ^ get_or bs 5 0) (raws_in bs) all) ∙ (raws ∙ rest)) in
      (λ i. head i ++ (codes i ++ tail i))
      ∙ (ap (λ (l : List ℕ). take 12 bs ++ l) (take-append-drop (2 * n) (drop 12 bs)) ∙ take-append-drop 12 bs)

  no_fault : Sound bs → AllByRecursion (Kept (2 ^ get_or bs 5 0)) (raws_in bs) → parts_fault (decode bs) ≡ None
  no_fault h all =
      let again = raws_again (2 ^ get_or bs 5 0) (raws_in bs) all in
      (λ i. or_else (header_fault (get_or bs 5 0) (states i) (word bs 8) (entries i)) (items_fault (get_or bs 5 0) (codes_in bs) (again i)))
      ∙ (ap (λ (f : Option ℕ). or_else f (items_fault (get_or bs 5 0) (codes_in bs) (raws_in bs))) (none_from _ h.header) ∙ none_from _ h.items)

pub bytes_back : (bs : List ℕ) → ((k : ℕ) → get_or bs k 0 < 256) → fault bs ≡ None → (parts_fault (decode bs) ≡ None) × (encode (decode bs) ≡ bs)
bytes_back bs small none =
    let h = sound bs (ap is_some none) in
    let w : ℕ = get_or bs 5 0 in
    let items = both_pass (each_fault (code_fault (2 ^ w)) 2 12 (codes_in bs)) (each_fault (raw_fault (2 ^ w)) 12 (12 + 2 * length (codes_in bs)) (raws_in bs)) h.items in
    let all = each_pass (Kept (2 ^ w)) (raw_fault (2 ^ w)) 12 (kept (2 ^ w)) (12 + 2 * length (codes_in bs)) (raws_in bs) items.1 in
    (no_fault bs small h all, encode-decode bs small h all)
