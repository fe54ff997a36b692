-- The file of an automaton, record by record, and what the reader makes of it.
use Rattle.std.proofs.Common.{◌≡◌, ℕ, zero, suc, ◌+◌, ◌-◌, ◌*◌, ◌/◌, ◌%◌, ◌<◌, ◌≤◌, List, [], ◌∷◌, ◌++◌, true, cond, leb, map, length, get_or, take, drop, Ok, Err, sym, refl, ap, ◌∙◌, subst, append_assoc, length-append, zero-add, arith}
use Rattle.std.specs.List.{range_with_len, flat_map, AllByRecursion}
use Rattle.std.proofs.lemmas.List.{ext_get_or, take_all, take_more, flat_map_more, get_or-map, append-nil}
use Rattle.std.proofs.lemmas.List.Folds.{length-flat_map-take}
use Rattle.std.proofs.lemmas.List.FromFn.{length-map-range_with_len, get_or-map-range_with_len}
use Rattle.std.proofs.ByRecursion.{All-get_or}
use Rattle.ternary.specs.declared.words.StateNo.{StateNo}
use Rattle.ternary.specs.declared.refusal.Refusal.TheVariants.{OutputTooShort}
use Rattle.ternary.specs.Refusals.{refuse_or}
use Rattle.fields.specs.Fields.{word, be16, be32, written}
use Rattle.fields.proofs.Bytes.{part_of_item}
use Rattle.fields.proofs.Writes.{written-written, length_joined}
use Rattle.automaton.specs.declared.words.ByteRange.{ByteRange}
use Rattle.automaton.specs.Runs.{Dfa}
use Rattle.automaton.specs.Limits.{Handed, Within, dfa}
use Rattle.automaton.specs.File.{state_no, StateRecord, Source, next_by, row_of, class_of, rows, classes, range_bytes, record_bytes, body, room_for, header_of}
use Rattle.automaton.specs.Laws.{RecordOk, SourceOk}
use Rattle.automaton.proofs.Filetrip.{source_comes_back}
use Rattle.automaton.proofs.Records.{length-records_in}
use Rattle.automaton.proofs.Reading.{long-row, length-rows, length-classes}
use Rattle.std.proofs.lemmas.Bool.{cond-true, and_from, le-leb}
use Rattle.automaton_writer.specs.Filed.{ranges_of, record_by, records_of, file_of, Leads}
use Rattle.automaton_writer.specs.Writes.{ReadsBack}
use Rattle.automaton_writer.proofs.Runs.{all-ranges, ranges-decide, ranges-ok, ranges-short}

-- ---- a record

pub length-ranges : (next : ℕ → ℕ) → length (flat_map range_bytes (ranges_of next)) ≡ 4 * length (ranges_of next)
length-ranges next = length_joined range_bytes 4 (λ r. refl) (ranges_of next)

-- the bytes of a record from those of its ranges
pub record-made : (class : ℕ) (row : List StateNo) (next : ℕ → ℕ) → Leads row next → (items : List ℕ) → items ≡ flat_map range_bytes (ranges_of next) → (be16 (3 + length items) ++ (class ∷ be16 (get_or row 0 (state_no 0)).0)) ++ items ≡ record_bytes (record_by class next)
record-made class row next leads items is =
    ap (λ d. (be16 (3 + length items) ++ (class ∷ be16 d)) ++ items) (ap (λ (s : StateNo). s.0) (leads 0 (omega arith)))
    ∙ ap (λ n. (be16 (3 + n) ++ (class ∷ be16 (next 0))) ++ items) (ap length is ∙ length-ranges next)
    ∙ ap (λ xs. (be16 (3 + 4 * length (ranges_of next)) ++ (class ∷ be16 (next 0))) ++ xs) is

pub ranges-few : (next : ℕ → ℕ) → length (ranges_of next) ≤ 256
ranges-few next = omega (arith, ap (length {A = ByteRange}) (all-ranges next), ranges-short next 0 1 255)

-- ---- the records

module _ (a : Dfa) where
  abbrev recs : List StateRecord
  recs = records_of a

  pub length-records : length recs ≡ a.states
  length-records = length-map-range_with_len (λ s. record_by (a.class s) (a.next s)) 0 a.states

  pub record-at : (s : ℕ) (d : StateRecord) → s < a.states → get_or recs s d ≡ record_by (a.class s) (a.next s)
  record-at s d h = get_or-map-range_with_len (λ s. record_by (a.class s) (a.next s)) 0 a.states s s d h (zero-add s)

  -- the bytes of the first s records
  abbrev pub done : ℕ → List ℕ
  done s = flat_map record_bytes (take s recs)

  pub done-more : (s : ℕ) → s < a.states → done (s + 1) ≡ done s ++ record_bytes (record_by (a.class s) (a.next s))
  done-more s h =
      let r : StateRecord = record_by (a.class s) (a.next s) in
      ap (flat_map record_bytes) (take_more recs s r (omega (arith, length-records)))
      ∙ sym (flat_map_more record_bytes [] (take s recs) (get_or recs s r))
      ∙ ap (λ x. done s ++ record_bytes x) (record-at s r h)

  pub done-all : (s : ℕ) → a.states ≤ s → done s ≡ flat_map record_bytes recs
  done-all s h = ap (flat_map record_bytes) (take_all s recs (omega (arith, length-records)))

  pub done-room : (s : ℕ) → s < a.states → length (done s) + length (record_bytes (record_by (a.class s) (a.next s))) ≤ length (flat_map record_bytes recs)
  done-room s h =
      let r : StateRecord = record_by (a.class s) (a.next s) in
      omega (arith, length-flat_map-take record_bytes recs s r (omega (arith, length-records)), ap (λ x. length (record_bytes x)) (record-at s r h))

  -- ---- the file

  abbrev pub source : Source
  source = record { start = a.start; states = recs }

  abbrev pub front : List ℕ
  front = be16 a.states ++ be16 a.start

  pub length-file : length (file_of a) ≡ 9 + length (flat_map record_bytes recs)
  length-file = omega arith

  pub file-split : file_of a ≡ (1 ∷ be32 (length (file_of a) - 5) ++ front) ++ flat_map record_bytes recs
  file-split =
      let long : length (body source) ≡ length (file_of a) - 5 = omega arith in
      ap (λ n. 1 ∷ be32 n ++ body source) long
      ∙ ap (λ n. 1 ∷ be32 (length (file_of a) - 5) ++ (be16 n ++ (be16 a.start ++ flat_map record_bytes recs))) length-records

  -- ---- writing it

  -- what is written once the head and the first s records are
  pub written-more : (out was now : List ℕ) (head item : List ℕ) (s at : ℕ) → s < a.states → length head ≡ 9 → 9 + length (done s) ≡ at → was ≡ written out 0 (head ++ done s) → item ≡ record_bytes (record_by (a.class s) (a.next s)) → now ≡ written was at item → now ≡ written out 0 (head ++ done (s + 1))
  written-more out was now head item s at h nine place inv is put =
      put
      ∙ ap (λ xs. written xs at item) inv
      ∙ written-written out (head ++ done s) item 0 at (omega (arith, place, nine, length-append head (done s))) (omega arith)
      ∙ ap (written out 0) (append_assoc head (done s) item ∙ ap (λ xs. head ++ xs) (ap (λ xs. done s ++ xs) is ∙ sym (done-more s h)))

  pub written-all : (out now head : List ℕ) (s : ℕ) → a.states ≤ s → head ≡ 1 ∷ be32 (length (file_of a) - 5) ++ front → now ≡ written out 0 (head ++ done s) → now ≡ written out 0 (file_of a)
  written-all out now head s h is inv =
      inv
      ∙ ap (λ xs. written out 0 (xs ++ done s)) is
      ∙ ap (λ xs. written out 0 ((1 ∷ be32 (length (file_of a) - 5) ++ front) ++ xs)) (done-all s h)
      ∙ ap (written out 0) (sym file-split)

-- ---- reading it back

module _ (h : Handed) (small : (s : ℕ) → s < h.states → get_or h.classes s 0 < 256) (w : Within h) where
  abbrev au : Dfa
  au = dfa h

  next-low : (s : ℕ) → s < h.states → (b : ℕ) → b < 256 → au.next s b < h.states
  next-low s lt b byte = All-get_or (λ (x : StateNo). x.0 < h.states) h.successors (256 * s + b) (state_no 0) (omega (arith, w.successors_count)) w.successors_below

  record-ok : (s : ℕ) → s < h.states → RecordOk h.states (record_by (au.class s) (au.next s))
  record-ok s lt = (
    small s lt,
    next-low s lt 0 (omega arith),
    omega (arith, ranges-few (au.next s)),
    subst (AllByRecursion _) (sym (all-ranges (au.next s))) (ranges-ok (au.next s) h.states (next-low s lt) 0 1 255 (omega arith) (omega arith)),
  )

  all-records : (k n : ℕ) → k + n ≤ h.states → AllByRecursion (RecordOk h.states) (map (λ s. record_by (au.class s) (au.next s)) (range_with_len k n))
  all-records k zero m = tt
  all-records k (suc n) m = (record-ok k (omega arith), all-records (k + 1) n (omega arith))

  source-ok : SourceOk (source au)
  source-ok =
      subst (λ (k : ℕ). (1 ≤ k) × (k ≤ 512) × (h.start < k) × AllByRecursion (RecordOk k) (records_of au)) (sym (length-records au))
      (w.some, w.few, w.start_below, all-records 0 h.states (omega arith))

  row-item : (s b : ℕ) → s < h.states → b < 256 → get_or (row_of (record_by (au.class s) (au.next s))) b (state_no 0) ≡ get_or h.successors (256 * s + b) (state_no 0)
  row-item s b lt byte =
      let r : StateRecord = record_by (au.class s) (au.next s) in
      get_or-map-range_with_len (next_by r.ranges r.default) 0 256 b b (state_no 0) byte (zero-add b)
      ∙ ap (λ xs. next_by xs r.default b) (all-ranges (au.next s))
      ∙ ranges-decide (au.next s) 0 1 255 b (omega arith) (λ x l g. let here : x ≡ 0 = omega arith in ap (au.next s) here) (omega arith) (omega arith)

  rows-back : rows (source au) ≡ h.successors
  rows-back =
      ext_get_or (state_no 0) (rows (source au)) h.successors (length-rows (records_of au) h.states (length-records au) ∙ sym w.successors_count) (λ i lt.
      let s : ℕ = i / 256 in
      let b : ℕ = i % 256 in
      let whole : i ≡ 256 * s + b = omega arith in
      let low : s < h.states = omega (arith, length-rows (records_of au) h.states (length-records au)) in
      let byte : b < 256 = omega arith in
      let d : StateRecord = record_by (au.class s) (au.next s) in
      ap (λ xs. get_or xs i (state_no 0)) (sym (append-nil (rows (source au))))
      ∙ part_of_item row_of 256 long-row (state_no 0) [] [] (records_of au) s b i d (omega (arith, length-records au)) byte (omega arith)
      ∙ ap (λ r. get_or (row_of r) b (state_no 0)) (record-at au s d low)
      ∙ row-item s b low byte
      ∙ ap (λ k. get_or h.successors k (state_no 0)) (sym whole))

  classes-back : classes (source au) ≡ h.classes
  classes-back =
      ext_get_or 0 (classes (source au)) h.classes (length-classes (records_of au) h.states (length-records au) ∙ sym w.classes_count) (λ s lt.
      let low : s < h.states = omega (arith, length-classes (records_of au) h.states (length-records au)) in
      let d : StateRecord = record_by (au.class s) (au.next s) in
      get_or-map class_of (records_of au) s d 0 (omega (arith, length-records au)) ∙ ap class_of (record-at au s d low))

  pub reads-back : ReadsBack h (file_of au)
  reads-back =
      let file : List ℕ = file_of au in
      let back = source_comes_back (source au) source-ok in
      record {
        answer = λ n m x y.
            let count : word file 5 ≡ h.states = sym (length-records_in (word file 5) (drop 9 file)) ∙ ap (λ (v : Source). length v.states) back.1 ∙ length-records au in
            let first : word file 7 ≡ h.start = ap (λ (v : Source). v.start) back.1 in
            let room : room_for (word file 5) n m ≡ true = and_from (leb (256 * word file 5) n) (leb (word file 5) m) (le-leb (256 * word file 5) n (omega (arith, count))) (le-leb (word file 5) m (omega (arith, count))) in
            ap (λ o. refuse_or o (cond (room_for (word file 5) n m) (Ok (header_of file)) (Err OutputTooShort))) back.0
            ∙ cond-true (room_for (word file 5) n m) (Ok (header_of file)) (Err OutputTooShort) room
            ∙ (λ i. Ok (record { states = count i; start = state_no (first i) }));
        successors = ap rows back.1 ∙ rows-back;
        classes = ap classes back.1 ∙ classes-back;
      }
