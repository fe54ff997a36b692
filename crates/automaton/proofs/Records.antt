-- Ranges and records, one at a time.
use Rattle.std.proofs.Common.{◌≡◌, ℕ, zero, suc, ◌+◌, ◌*◌, ◌/◌, ◌%◌, ◌<◌, ◌≤◌, true, false, cond, ◌&&◌, eqb, ltb, leb, List, [], ◌∷◌, map, length, get_or, take, drop, is_some, None, Some, Ok, Err, Option, sym, refl, ap, ◌∙◌, subst, arith}
use Rattle.std.specs.List.{find, range_with_len}
use Rattle.std.specs.Simd.{first_chunks}
use Rattle.std.specs.Option.{option_map, unwrap_or}
use Rattle.std.proofs.lemmas.List.{drop_more, drop-drop, get_or-take, get_or-drop}
use Rattle.std.proofs.lemmas.List.FromFn.{length-map-range_with_len}
use Rattle.std.proofs.lemmas.Bool.{cond-true, and_from, and_parts, le-leb, leb-true, eq-eqb, eqb-true, lt-ltb, ltb-true}
use Rattle.fields.proofs.Faults.{passed, stopped, both_pass, check_pass, pass, last_fault, Framed, framed, frame_passed}
use Rattle.ternary.specs.declared.refusal.Refusal.TheVariants.{OutputTooShort}
use Rattle.ternary.specs.Refusals.{refuse_or}
use Rattle.ternary.specs.declared.words.StateNo.{StateNo}
use Rattle.automaton.specs.declared.words.ByteRange.{ByteRange}
use Rattle.fields.specs.Fields.{word, check, or_else, frame_fault}
use Rattle.automaton.specs.File.{fault, fields_fault, read_answer, header_of, room_for, StateRecord, state_no, range_at, range_of, in_range, next_by, record_size, length_fits, parts_fault, record_fault, records_fault, record_in, records_in}

-- the successor on a byte, as a search that ends at the first range that holds it
pub next_found : (rs : List ByteRange) (default : StateNo) (byte : ℕ) → unwrap_or (option_map (λ r. r.next) (find (λ r. in_range r byte) rs)) default ≡ next_by rs default byte
next_found [] default byte = refl
next_found (r ∷ rs) default byte =
    elim (in_range r byte) as (λ t. unwrap_or (option_map (λ x. x.next) (cond t (Some r) (find (λ x. in_range x byte) rs))) default ≡ cond t r.next (next_by rs default byte))
    [ true ↦ refl | false ↦ next_found rs default byte ]

-- ranges that were cut into four bytes each
module _ (bs : List ℕ) (n : ℕ) where
  cell : (a j : ℕ) → 4 * a + 4 ≤ n → j < 4 → get_or (take 4 (drop (4 * a) (take n bs))) j 0 ≡ get_or bs (4 * a + j) 0
  cell a j room lt =
      get_or-take 4 (drop (4 * a) (take n bs)) j 0 lt
      ∙ (get_or-drop (4 * a) (take n bs) j 0 ∙ get_or-take n bs (4 * a + j) 0 (omega arith))

  range_cut : (a : ℕ) → 4 * a + 4 ≤ n → range_of (take 4 (drop (4 * a) (take n bs))) ≡ range_at bs a
  range_cut a room =
      let item : List ℕ = take 4 (drop (4 * a) (take n bs)) in
      let low : get_or item 0 0 ≡ get_or bs (4 * a) 0 = cell a 0 room (omega arith) ∙ ap (λ (k : ℕ). get_or bs k 0) (omega arith) in
      let high = cell a 1 room (omega arith) in
      let n1 = cell a 2 room (omega arith) in
      let n0 : get_or item 3 0 ≡ get_or bs (4 * a + 2 + 1) 0 = cell a 3 room (omega arith) ∙ ap (λ (k : ℕ). get_or bs k 0) (omega arith) in
      λ i. record { low = low i; high = high i; next = state_no (n1 i * 256 + n0 i) }

  pub ranges_cut : (a k : ℕ) → 4 * (a + k) ≤ n → map range_of (first_chunks 4 k (drop (4 * a) (take n bs))) ≡ map (range_at bs) (range_with_len a k)
  ranges_cut a zero room = refl
  ranges_cut a (suc k) room =
      let this = range_cut a (omega arith) in
      let on : drop 4 (drop (4 * a) (take n bs)) ≡ drop (4 * (a + 1)) (take n bs) = drop-drop 4 (4 * a) (take n bs) ∙ ap (λ (j : ℕ). drop j (take n bs)) (omega arith) in
      (λ i. this i ∷ map range_of (first_chunks 4 k (on i)))
      ∙ ap (λ (l : List ByteRange). range_at bs a ∷ l) (ranges_cut (a + 1) k (omega arith))

pub length-fits : (rest : List ℕ) → record_size rest ≤ length rest → word rest 0 % 4 ≡ 3 → length_fits rest ≡ true
length-fits rest within four =
    and_from (leb (record_size rest) (length rest)) (eqb (word rest 0 % 4) 3) (le-leb (record_size rest) (length rest) within) (eq-eqb (word rest 0 % 4) 3 four)

-- one record of several
module _ (n left fewer at : ℕ) (rest : List ℕ) (one : left ≡ suc fewer) (f : Option ℕ) (is : f ≡ record_fault n at rest) where
  records_here : records_fault n left at rest ≡ or_else f (records_fault n fewer (at + record_size rest) (drop (record_size rest) rest))
  records_here =
      ap (λ (k : ℕ). records_fault n k at rest) one
      ∙ ap (λ (g : Option ℕ). or_else g (records_fault n fewer (at + record_size rest) (drop (record_size rest) rest))) (sym is)

  pub records_found : is_some f ≡ true → records_fault n left at rest ≡ f
  records_found bad = records_here ∙ stopped _ _ bad

  pub records_more : (size : ℕ) → size ≡ record_size rest → is_some f ≡ false → records_fault n left at rest ≡ records_fault n fewer (at + size) (drop size rest)
  records_more size e ok = records_here ∙ (passed _ _ ok ∙ ap (λ (k : ℕ). records_fault n fewer (at + k) (drop k rest)) (sym e))

-- what a record with no fault keeps
pub record Whole (n : ℕ) (rest : List ℕ) : Type 0 where
  pub within : record_size rest ≤ length rest
  pub four : word rest 0 % 4 ≡ 3
  pub default : word rest 3 < n

pub whole : (n at : ℕ) (rest : List ℕ) → is_some (record_fault n at rest) ≡ false → Whole n rest
whole n at rest h =
    let a = both_pass (check (length_fits rest) at) _ h in
    let b = both_pass (check (ltb (word rest 3) n) (at + 3)) _ a.1 in
    let fits = and_parts (leb (record_size rest) (length rest)) (eqb (word rest 0 % 4) 3) (check_pass _ _ a.0) in
    record {
      within = leb-true (record_size rest) (length rest) fits.0;
      four = eqb-true (word rest 0 % 4) 3 fits.1;
      default = ltb-true (word rest 3) n (check_pass _ _ b.0);
    }

-- records with no fault, one after another
abbrev pub AllWhole : ℕ → ℕ → List ℕ → Type 0
AllWhole n zero rest = Unit {0}
AllWhole n (suc left) rest = Whole n rest × AllWhole n left (drop (record_size rest) rest)

pub all_whole : (n left at : ℕ) (rest : List ℕ) → is_some (records_fault n left at rest) ≡ false → AllWhole n left rest
all_whole n zero at rest h = tt
all_whole n (suc left) at rest h =
    let parts = both_pass (record_fault n at rest) _ h in
    (whole n at rest parts.0, all_whole n left (at + record_size rest) (drop (record_size rest) rest) parts.1)

pub length-records_in : (n : ℕ) (rest : List ℕ) → length (records_in n rest) ≡ n
length-records_in zero rest = refl
length-records_in (suc n) rest = ap suc (length-records_in n (drop (record_size rest) rest))

-- what a state leaves in the buffer of classes
abbrev pub mark_of : StateRecord → List ℕ
mark_of s = s.class ∷ []

pub first_whole : (n left fewer : ℕ) (rest : List ℕ) → left ≡ suc fewer → AllWhole n left rest → Whole n rest × AllWhole n fewer (drop (record_size rest) rest)
first_whole n left fewer rest e h = subst (λ (k : ℕ). AllWhole n k rest) e h

pub first_record : (left fewer i : ℕ) (rest : List ℕ) (all : List StateRecord) → left ≡ suc fewer → i < length all → records_in left rest ≡ drop i all → (get_or all i (record_in rest) ≡ record_in rest) × (records_in fewer (drop (record_size rest) rest) ≡ drop (i + 1) all)
first_record left fewer i rest all e lt h =
    let both : record_in rest ∷ records_in fewer (drop (record_size rest) rest) ≡ get_or all i (record_in rest) ∷ drop (i + 1) all =
    sym (ap (λ (k : ℕ). records_in k rest) e) ∙ (h ∙ drop_more all i (record_in rest) lt) in
    (cc, cc)

-- a file whose header keeps the rules has the fault of its records
pub file_records : (file : List ℕ) → Framed 4 file → 1 ≤ word file 5 → word file 5 ≤ 512 → word file 7 < word file 5 → fault file ≡ records_fault (word file 5) (word file 5) 9 (drop 9 file)
file_records file frame some few start =
    frame_passed 4 file (fields_fault file) frame
    ∙ (pass (leb 1 (word file 5) && leb (word file 5) 512) 5 _ (and_from (leb 1 (word file 5)) (leb (word file 5) 512) (le-leb 1 (word file 5) some) (le-leb (word file 5) 512 few))
    ∙ (pass (ltb (word file 7) (word file 5)) 7 _ (lt-ltb (word file 7) (word file 5) start)
    ∙ last_fault _))

-- what a file with no fault keeps
pub record Accepted (file : List ℕ) : Type 0 where
  pub frame : Framed 4 file
  pub some : 1 ≤ word file 5
  pub few : word file 5 ≤ 512
  pub start : word file 7 < word file 5
  pub records : is_some (records_fault (word file 5) (word file 5) 9 (drop 9 file)) ≡ false

pub accepted_parts : (file : List ℕ) → fault file ≡ None → Accepted file
accepted_parts file none =
    let a = both_pass (frame_fault 4 file) (fields_fault file) (ap is_some none) in
    let d = both_pass (check (leb 1 (word file 5) && leb (word file 5) 512) 5) _ a.1 in
    let e = both_pass (check (ltb (word file 7) (word file 5)) 7) _ d.1 in
    let limits = and_parts (leb 1 (word file 5)) (leb (word file 5) 512) (check_pass _ _ d.0) in
    record {
      frame = framed 4 file a.0;
      some = leb-true 1 (word file 5) limits.0;
      few = leb-true (word file 5) 512 limits.1;
      start = ltb-true (word file 7) (word file 5) (check_pass _ _ e.0);
      records = (both_pass (records_fault (word file 5) (word file 5) 9 (drop 9 file)) None e.1).0;
    }

-- a file with no fault, and room for its states, is answered by its header
pub read_ok : (file : List ℕ) (rows marks : ℕ) → fault file ≡ None → 256 * word file 5 ≤ rows → word file 5 ≤ marks → read_answer file rows marks ≡ Ok (header_of file)
read_ok file rows marks none r m =
    ap (λ (f : Option ℕ). refuse_or f (cond (room_for (word file 5) rows marks) (Ok (header_of file)) (Err OutputTooShort))) none
    ∙ cond-true _ _ _ (and_from (leb (256 * word file 5) rows) (leb (word file 5) marks) (le-leb (256 * word file 5) rows r) (le-leb (word file 5) marks m))

-- a record whose length is right is what its bytes say
pub record_told : (rest : List ℕ) (s : StateRecord) → Some s ≡ cond (length_fits rest) (Some (record_in rest)) None → (length_fits rest ≡ true) × (s ≡ record_in rest)
record_told rest s =
    elim (length_fits rest) as (λ t. Some s ≡ cond t (Some (record_in rest)) None → (t ≡ true) × (s ≡ record_in rest))
    [ true ↦ (λ e. (refl, cc)) | false ↦ (λ e. let z : ◌≡◌ {A = ℕ} 0 1 = cc in absurd (omega arith)) ]

-- and takes the bytes that it says: five, and four a range
pub record_long : (rest : List ℕ) → length_fits rest ≡ true → 5 + 4 * length (record_in rest).ranges ≡ record_size rest
record_long rest fits =
    let parts = and_parts (leb (record_size rest) (length rest)) (eqb (word rest 0 % 4) 3) fits in
    omega (arith, length-map-range_with_len (range_at (drop 5 rest)) 0 (word rest 0 / 4), eqb-true (word rest 0 % 4) 3 parts.1)

-- a record that has no fault is answered by its size
pub record_passed : (n at : ℕ) (rest : List ℕ) → length_fits rest ≡ true → parts_fault n at (record_in rest) ≡ None → Ok (record_size rest) ≡ refuse_or (record_fault n at rest) (Ok (record_size rest))
record_passed n at rest fits none = ap (λ f. refuse_or f (Ok (record_size rest))) (sym (pass (length_fits rest) at _ fits ∙ none))

-- the record that a whole record's bytes are taken apart to
pub whole_fits : (n : ℕ) (rest : List ℕ) → Whole n rest → length_fits rest ≡ true
whole_fits n rest good = length-fits rest good.within good.four

pub whole_read : (n : ℕ) (rest : List ℕ) → Whole n rest → (r : Option StateRecord) → r ≡ cond (length_fits rest) (Some (record_in rest)) None → r ≡ Some (record_in rest)
whole_read n rest good r e = e ∙ cond-true _ _ _ (whole_fits n rest good)

-- so there is one
none_some : {X : Type 0} (x : X) → ◌≡◌ {A = Option X} None (Some x) → ⊥
none_some x e = let z : ◌≡◌ {A = ℕ} 0 1 = cc in omega arith

pub whole_some : (n : ℕ) (rest : List ℕ) → Whole n rest → (r : Option StateRecord) → r ≡ None → r ≡ cond (length_fits rest) (Some (record_in rest)) None → ⊥
whole_some n rest good r none e = none_some (record_in rest) (sym none ∙ whole_read n rest good r e)
