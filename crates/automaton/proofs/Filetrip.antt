-- Writing and reading an automaton file undo each other.
use Rattle.std.proofs.Common.{◌≡◌, ℕ, zero, suc, ◌+◌, ◌-◌, ◌*◌, ◌/◌, ◌%◌, ◌<◌, ◌≤◌, false, eqb, ltb, leb, List, [], ◌∷◌, ◌++◌, map, length, get_or, take, drop, is_some, None, Option, sym, refl, ap, ◌∙◌, subst, zero-add, arith, length-append, length-drop, take-append-drop, take-add}
use Rattle.std.specs.List.{range_with_len, flat_map, AllByRecursion}
use Rattle.std.proofs.lemmas.List.FromFn.{length-map-range_with_len, fill_by_all}
use Rattle.std.proofs.ByRecursion.{All-get_or}
use Rattle.std.proofs.lemmas.List.{drop_more, drop_at, get_or-drop, nil_from_length}
use Rattle.std.proofs.lemmas.Bool.{leb-true, ltb-true, eqb-true, le-leb, lt-ltb}
use Rattle.automaton.specs.declared.words.ByteRange.{ByteRange}
use Rattle.fields.specs.Fields.{word, long, be16, be32, or_else, check, each_fault}
use Rattle.automaton.specs.File.{state_no, StateRecord, Source, range_bytes, record_bytes, body, encode, range_at, ranges_in, record_size, record_in, records_in, decode, range_fault, length_fits, record_fault, records_fault, fault}
use Rattle.automaton.specs.Laws.{RangeOk, RecordOk, SourceOk}
use Rattle.fields.proofs.Bytes.{be16_read, be16_back, be32_read, be32_back, front, joined_made, byte_of_item}
use Rattle.fields.proofs.Faults.{both_pass, check_pass, pass, each_pass}
use Rattle.automaton.proofs.Records.{Whole, whole, length-fits, length-records_in, file_records, accepted_parts}
use Rattle.fields.proofs.Writes.{length_joined}

-- the bytes of a record that was read are the bytes that it was read from
module _ (bs : List ℕ) (small : (k : ℕ) → get_or bs k 0 < 256) where
  word_bytes : (at : ℕ) → be16 (word bs at) ≡ get_or bs at 0 ∷ get_or bs (at + 1) 0 ∷ []
  word_bytes at = be16_read (get_or bs at 0) (get_or bs (at + 1) 0) (small at) (small (at + 1))

  word_small : (at : ℕ) → word bs at < 65536
  word_small at = omega (arith, small at, small (at + 1))

  range_back : (k : ℕ) → 4 * k + 4 ≤ length bs → range_bytes (range_at bs k) ≡ take 4 (drop (0 + 4 * k) bs)
  range_back k h =
      let at : ℕ = 4 * k in
      let next = word_bytes (at + 2) in
      (λ i. get_or bs at 0 ∷ get_or bs (at + 1) 0 ∷ next i)
      ∙ sym (ap (λ (a : ℕ). take 4 (drop a bs)) (zero-add at)
      ∙ (front bs 3 at (at + 1) refl (omega arith)
      ∙ ap (λ (l : List ℕ). get_or bs at 0 ∷ l) (front bs 2 (at + 1) (at + 2) (omega arith) (omega arith)
      ∙ ap (λ (l : List ℕ). get_or bs (at + 1) 0 ∷ l) (front bs 1 (at + 2) (at + 2 + 1) refl (omega arith)
      ∙ ap (λ (l : List ℕ). get_or bs (at + 2) 0 ∷ l) (front bs 0 (at + 2 + 1) (at + 4) (omega arith) (omega arith))))))

  ranges_back : (n : ℕ) → 4 * n ≤ length bs → flat_map range_bytes (ranges_in bs n) ≡ take (4 * n) bs
  ranges_back n h = joined_made range_bytes (range_at bs) bs 0 4 n 0 (λ k lt. range_back k (omega arith))

drop_small : (bs : List ℕ) (n : ℕ) → ((k : ℕ) → get_or bs k 0 < 256) → (k : ℕ) → get_or (drop n bs) k 0 < 256
drop_small bs n small k = rw get_or-drop (small (n + k))

state_back : (n : ℕ) (rest : List ℕ) → ((k : ℕ) → get_or rest k 0 < 256) → Whole n rest → record_bytes (record_in rest) ≡ take (record_size rest) rest
state_back n rest small good =
    let q : ℕ = word rest 0 / 4 in
    let within = good.within in
    let four = good.four in
    let count : 3 + 4 * length (ranges_in (drop 5 rest) q) ≡ word rest 0 = ap (λ (k : ℕ). 3 + 4 * k) (length-map-range_with_len (range_at (drop 5 rest)) 0 q) ∙ omega arith in
    let len = ap be16 count ∙ word_bytes rest small 0 in
    let default = word_bytes rest small 3 in
    let ranges = ranges_back (drop 5 rest) (drop_small rest 5 small) q (rw length-drop (omega arith)) in
    let five : take 5 rest ≡ get_or rest 0 0 ∷ get_or rest 1 0 ∷ get_or rest 2 0 ∷ get_or rest 3 0 ∷ get_or rest 4 0 ∷ [] =
    front rest 4 0 1 refl (omega arith)
    ∙ ap (λ (l : List ℕ). get_or rest 0 0 ∷ l) (front rest 3 1 2 refl (omega arith)
    ∙ ap (λ (l : List ℕ). get_or rest 1 0 ∷ l) (front rest 2 2 3 refl (omega arith)
    ∙ ap (λ (l : List ℕ). get_or rest 2 0 ∷ l) (front rest 1 3 4 refl (omega arith)
    ∙ ap (λ (l : List ℕ). get_or rest 3 0 ∷ l) (front rest 0 4 5 refl (omega arith))))) in
    let size : 5 + 4 * q ≡ record_size rest = omega arith in
    (λ i. len i ++ (get_or rest 2 0 ∷ default i ++ ranges i))
    ∙ (ap (λ (l : List ℕ). l ++ take (4 * q) (drop 5 rest)) (sym five)
    ∙ (sym (take-add 5 (4 * q) rest) ∙ ap (λ (k : ℕ). take k rest) size))

all_made : {X : Type 0} (P : X → Type 0) (make : ℕ → X) → ((k : ℕ) → P (make k)) → (a n : ℕ) → AllByRecursion P (map make (range_with_len a n))
all_made P make each a zero = tt
all_made P make each a (suc n) = (each a, all_made P make each (a + 1) n)

all_both : {X : Type 0} (P Q R : X → Type 0) → ((x : X) → P x → Q x → R x) → (xs : List X) → AllByRecursion P xs → AllByRecursion Q xs → AllByRecursion R xs
all_both P Q R f [] p q = tt
all_both P Q R f (x ∷ xs) p q = (f x p.0 q.0, all_both P Q R f xs p.1 q.1)

range_pass : (n at : ℕ) (r : ByteRange) → is_some (range_fault n at r) ≡ false → (r.low ≤ r.high) × (r.next.0 < n)
range_pass n at r h =
    let a = both_pass (check (leb r.low r.high) at) _ h in
    let b = both_pass (check (ltb r.next.0 n) (at + 2)) None a.1 in
    (leb-true r.low r.high (check_pass _ _ a.0), ltb-true r.next.0 n (check_pass _ _ b.0))

state_ok : (n at : ℕ) (rest : List ℕ) → ((k : ℕ) → get_or rest k 0 < 256) → is_some (record_fault n at rest) ≡ false → RecordOk n (record_in rest)
state_ok n at rest small h =
    let good = whole n at rest h in
    let four = good.four in
    let q : ℕ = word rest 0 / 4 in
    let a = both_pass (check (length_fits rest) at) _ h in
    let b = both_pass (check (ltb (word rest 3) n) (at + 3)) _ a.1 in
    let rules = each_pass (λ r. (r.low ≤ r.high) × (r.next.0 < n)) (range_fault n) 4 (λ k r f. range_pass n k r f) (at + 5) (record_in rest).ranges b.1 in
    let tops = all_made (λ (r : ByteRange). r.high < 256) (range_at (drop 5 rest)) (λ k. drop_small rest 5 small (4 * k + 1)) 0 q in (
      small 2,
      good.default,
      rw length-map-range_with_len (omega (arith, word_small rest small 0)),
      all_both _ _ (RangeOk n) (λ r p t. (p.0, t, p.1)) (record_in rest).ranges rules tops,
    )

states_back : (n left at : ℕ) (rest : List ℕ) → ((k : ℕ) → get_or rest k 0 < 256) → is_some (records_fault n left at rest) ≡ false → AllByRecursion (RecordOk n) (records_in left rest) × (flat_map record_bytes (records_in left rest) ≡ rest)
states_back n zero at rest small h = (tt, sym (nil_from_length rest (eqb-true (length rest) 0 (check_pass (eqb (length rest) 0) at h))))
states_back n (suc left) at rest small h =
    let size : ℕ = record_size rest in
    let parts = both_pass (record_fault n at rest) _ h in
    let more = states_back n left (at + size) (drop size rest) (drop_small rest size small) parts.1 in
    let here = state_back n rest small (whole n at rest parts.0) in
    let there = more.1 in
    ((state_ok n at rest small parts.0, more.0), (λ i. here i ++ there i) ∙ take-append-drop size rest)

-- the bytes of a file around its records
module _ (file : List ℕ) (small : (k : ℕ) → get_or file k 0 < 256) (room : 9 ≤ length file) where
  body_back : (states : List StateRecord) → length states ≡ word file 5 → flat_map record_bytes states ≡ drop 9 file → body (record { start = word file 7; states = states }) ≡ drop 5 file
  body_back states count records =
      let n = ap be16 count ∙ word_bytes file small 5 in
      let s = word_bytes file small 7 in
      (λ i. n i ++ (s i ++ records i))
      ∙ sym (drop_more file 5 0 (omega arith)
      ∙ ap (λ (l : List ℕ). get_or file 5 0 ∷ l) (drop_more file 6 0 (omega arith)
      ∙ ap (λ (l : List ℕ). get_or file 6 0 ∷ l) (drop_more file 7 0 (omega arith)
      ∙ ap (λ (l : List ℕ). get_or file 7 0 ∷ l) (drop_more file 8 0 (omega arith)))))

  file_back : (rest : List ℕ) → rest ≡ drop 5 file → get_or file 0 0 ≡ 1 → long file 1 ≡ length file - 5 → 1 ∷ be32 (length rest) ++ rest ≡ file
  file_back rest e version size =
      let one : 1 ≡ get_or file 0 0 = sym version in
      let count : length rest ≡ long file 1 = ap length e ∙ (length-drop 5 file ∙ sym size) in
      let len = ap be32 count ∙ be32_read (get_or file 1 0) (get_or file 2 0) (get_or file 3 0) (get_or file 4 0) (small 1) (small 2) (small 3) (small 4) in
      (λ i. one i ∷ len i ++ e i)
      ∙ sym (drop_more file 0 0 (omega arith)
      ∙ ap (λ (l : List ℕ). get_or file 0 0 ∷ l) (drop_more file 1 0 (omega arith)
      ∙ ap (λ (l : List ℕ). get_or file 1 0 ∷ l) (drop_more file 2 0 (omega arith)
      ∙ ap (λ (l : List ℕ). get_or file 2 0 ∷ l) (drop_more file 3 0 (omega arith)
      ∙ ap (λ (l : List ℕ). get_or file 3 0 ∷ l) (drop_more file 4 0 (omega arith))))))

-- a file with no fault says a source within the limits, and is that source's file
pub file_comes_back : (file : List ℕ) → fault file ≡ None → ((k : ℕ) → get_or file k 0 < 256) → SourceOk (decode file) × (encode (decode file) ≡ file)
file_comes_back file none small =
    let n : ℕ = word file 5 in
    let good = accepted_parts file none in
    let states : List StateRecord = records_in n (drop 9 file) in
    let records = states_back n n 9 (drop 9 file) (drop_small file 9 small) good.records in
    let count : length states ≡ n = length-records_in n (drop 9 file) in (
      subst (λ (k : ℕ). (1 ≤ k) × (k ≤ 512) × (word file 7 < k) × AllByRecursion (RecordOk k) states) (sym count)
          (good.some, good.few, good.start, records.0),
      file_back file small good.frame.room (body (decode file)) (body_back file small good.frame.room states count records.1) good.frame.version good.frame.size,
    )

ranges_fine : (n at : ℕ) (rs : List ByteRange) → AllByRecursion (RangeOk n) rs → each_fault (range_fault n) 4 at rs ≡ None
ranges_fine n at [] ok = refl
ranges_fine n at (r ∷ rs) ok =
    ap (λ (f : Option ℕ). or_else f (each_fault (range_fault n) 4 (at + 4) rs))
    (pass (leb r.low r.high) at _ (le-leb r.low r.high ok.0.0) ∙ pass (ltb r.next.0 n) (at + 2) _ (lt-ltb r.next.0 n ok.0.2))
    ∙ ranges_fine n (at + 4) rs ok.1

-- a record that was written, before some more bytes
module _ (n : ℕ) (s : StateRecord) (more : List ℕ) (few : n ≤ 512) (ok : RecordOk n s) where
  length_read : word (record_bytes s ++ more) 0 ≡ 3 + 4 * length s.ranges
  length_read = be16_back (3 + 4 * length s.ranges) ok.2

  default_read : word (record_bytes s ++ more) 3 ≡ s.default.0
  default_read = be16_back s.default.0 (omega (arith, ok.1))

  range_read : (k : ℕ) (d : ByteRange) → k < length s.ranges → get_or s.ranges k d ≡ range_at (flat_map range_bytes s.ranges ++ more) k
  range_read k d h =
      let r : ByteRange = get_or s.ranges k d in
      let bs : List ℕ = flat_map range_bytes s.ranges ++ more in
      let read : (j at : ℕ) → j < 4 → at ≡ 0 + 4 * k + j → get_or bs at 0 ≡ get_or (range_bytes r) j 0 =
      λ j at lt e. byte_of_item range_bytes 4 (λ _. refl) [] more s.ranges k j at d h lt e in
      let rules = All-get_or (RangeOk n) s.ranges k d h ok.3 in
      let low : get_or bs (4 * k) 0 ≡ r.low = read 0 (4 * k) (omega arith) (omega arith) in
      let high : get_or bs (4 * k + 1) 0 ≡ r.high = read 1 (4 * k + 1) (omega arith) (omega arith) in
      let n1 : get_or bs (4 * k + 2) 0 ≡ r.next.0 / 256 % 256 = read 2 (4 * k + 2) (omega arith) (omega arith) in
      let n0 : get_or bs (4 * k + 2 + 1) 0 ≡ r.next.0 % 256 = read 3 (4 * k + 2 + 1) (omega arith) (omega arith) in
      let next : r.next.0 ≡ word bs (4 * k + 2) = sym (be16_back r.next.0 (omega (arith, rules.2))) ∙ (λ i. sym n1 i * 256 + sym n0 i) in
      λ i. record { low = sym low i; high = sym high i; next = state_no (next i) }

  ranges_read : (record_in (record_bytes s ++ more)).ranges ≡ s.ranges
  ranges_read =
      let bs : List ℕ = flat_map range_bytes s.ranges ++ more in
      let count : word (record_bytes s ++ more) 0 / 4 ≡ length s.ranges = ap (λ (k : ℕ). k / 4) length_read ∙ omega arith in
      ap (ranges_in bs) count
      ∙ sym (fill_by_all (range_at bs) s.ranges (length s.ranges) (range_at [] 0) refl (λ k h. range_read k (range_at [] 0) h))

  state_read : record_in (record_bytes s ++ more) ≡ s
  state_read =
      let ranges = ranges_read in
      λ i. record { class = s.class; default = state_no (default_read i); ranges = ranges i }

  size_read : record_size (record_bytes s ++ more) ≡ length (record_bytes s)
  size_read = let ranges = length_joined range_bytes 4 (λ _. refl) s.ranges in let len = length_read in omega arith

  rest_read : drop (record_size (record_bytes s ++ more)) (record_bytes s ++ more) ≡ more
  rest_read = drop_at (record_bytes s) more (record_size (record_bytes s ++ more)) (sym size_read)

  record_read : (at : ℕ) → record_fault n at (record_bytes s ++ more) ≡ None
  record_read at =
      let bs : List ℕ = record_bytes s ++ more in
      let size = size_read in
      let len = length_read in
      pass (length_fits bs) at _ (length-fits bs (omega (arith, length-append (record_bytes s) more)) (ap (λ (k : ℕ). k % 4) len ∙ omega arith))
      ∙ (pass (ltb (word bs 3) n) (at + 3) _ (lt-ltb (word bs 3) n (omega (arith, default_read, ok.1)))
      ∙ (ap (each_fault (range_fault n) 4 (at + 5)) ranges_read ∙ ranges_fine n (at + 5) s.ranges ok.3))

states_read : (n : ℕ) (ss : List StateRecord) → n ≤ 512 → AllByRecursion (RecordOk n) ss → records_in (length ss) (flat_map record_bytes ss) ≡ ss
states_read n [] few ok = refl
states_read n (s ∷ ss) few ok =
    let this = state_read n s (flat_map record_bytes ss) few ok.0 in
    let rest = rest_read n s (flat_map record_bytes ss) few ok.0 in
    (λ i. this i ∷ records_in (length ss) (rest i)) ∙ ap (λ (l : List StateRecord). s ∷ l) (states_read n ss few ok.1)

records_read : (n at : ℕ) (ss : List StateRecord) → n ≤ 512 → AllByRecursion (RecordOk n) ss → records_fault n (length ss) at (flat_map record_bytes ss) ≡ None
records_read n at [] few ok = refl
records_read n at (s ∷ ss) few ok =
    let bs : List ℕ = record_bytes s ++ flat_map record_bytes ss in
    ap (λ (f : Option ℕ). or_else f (records_fault n (length ss) (at + record_size bs) (drop (record_size bs) bs))) (record_read n s (flat_map record_bytes ss) few ok.0 at)
    ∙ (ap (records_fault n (length ss) (at + record_size bs)) (rest_read n s (flat_map record_bytes ss) few ok.0)
    ∙ records_read n (at + record_size bs) ss few ok.1)

length_records : (n : ℕ) (ss : List StateRecord) → AllByRecursion (RecordOk n) ss → length (flat_map record_bytes ss) ≤ 65538 * length ss
length_records n [] ok = omega arith
length_records n (s ∷ ss) ok =
    let ranges = length_joined range_bytes 4 (λ _. refl) s.ranges in
    let more = length_records n ss ok.1 in
    omega (arith, length-append (record_bytes s) (flat_map record_bytes ss), ok.0.2)

-- the file of a source within the limits has no fault, and says that source
pub source_comes_back : (a : Source) → SourceOk a → (fault (encode a) ≡ None) × (decode (encode a) ≡ a)
source_comes_back a ok =
    let file : List ℕ = encode a in
    let n : ℕ = length a.states in
    let few = ok.1 in
    let records : List ℕ = flat_map record_bytes a.states in
    let states : word file 5 ≡ n = be16_back n (omega (arith, few)) in
    let start : word file 7 ≡ a.start = be16_back a.start (omega (arith, few, ok.2)) in
    let short : length (body a) < 4294967296 = omega (arith, length_records n a.states ok.3, few) in
    let size : long file 1 ≡ length (body a) = be32_back (length (body a)) short in
    let back = states_read n a.states few ok.3 in (
      file_records file (record { room = omega arith; version = refl; size = size ∙ omega arith }) (omega (arith, ok.0, states)) (omega (arith, few, states)) (omega (arith, ok.2, start, states))
          ∙ ((λ i. records_fault (states i) (states i) 9 records) ∙ records_read n 9 a.states few ok.3),
      (λ i. record { start = start i; states = ((λ j. records_in (states j) records) ∙ back) i }),
    )
