-- What reading owes, from its answer and what it leaves.
use Rattle.std.proofs.Common.{◌≡◌, ℕ, zero, suc, ◌+◌, ◌*◌, ◌<◌, ◌≤◌, Bool, true, false, cond, ◌&&◌, leb, List, [], ◌∷◌, ◌++◌, map, length, get_or, take, drop, Some, None, Ok, Err, Option, Result, sym, refl, ap, ◌∙◌, subst, ⊎_elim, arith, MatchResult}
use Rattle.std.specs.List.{range_with_len, flat_map, AllByRecursion}
use Rattle.std.proofs.lemmas.List.FromFn.{length-map-range_with_len, get_or-map-range_with_len}
use Rattle.std.proofs.ByRecursion.{All-append}
use Rattle.std.proofs.lemmas.List.{take_at, length-map, get_or-map, append-nil}
use Rattle.std.proofs.lemmas.Bool.{cond-true, cond-false, cases_eq, and_from, le-leb, lt-leb}
use Rattle.ternary.specs.declared.refusal.Refusal.{Refusal}
use Rattle.ternary.specs.declared.refusal.Refusal.TheVariants.{OutputTooShort}
use Rattle.ternary.specs.Refusals.{refuse_or}
use Rattle.ternary.specs.declared.words.StateNo.{StateNo}
use Rattle.fields.specs.Fields.{word, written}
use Rattle.fields.proofs.Bytes.{part_of_item}
use Rattle.fields.proofs.Writes.{length_joined}
use Rattle.automaton.specs.declared.words.ByteRange.{ByteRange}
use Rattle.automaton.specs.declared.words.Header.{Header}
use Rattle.automaton.specs.Runs.{Dfa}
use Rattle.automaton.specs.Limits.{dfa}
use Rattle.automaton.specs.File.{state_no, StateRecord, Source, in_range, next_by, row_of, class_of, rows, classes, decode, fault, header_of, room_for, read_answer, filled}
use Rattle.automaton.specs.Laws.{RangeOk, RecordOk, SourceOk, Room, Sound, one_byte, record_of, source_of, Same, held_in, KeepsLimits, IsItsSourcesFile, GivesSourceBack, GivesAutomatonBack}
use Rattle.automaton.proofs.Records.{length-records_in, read_ok}
use Rattle.automaton.proofs.Filetrip.{file_comes_back, source_comes_back}

-- an answer of a header

answered : (f : Option ℕ) (room : Bool) (x h : Header) → Ok h ≡ refuse_or f (cond room (Ok x) (Err OutputTooShort)) → (f ≡ None) × (room ≡ true) × (h ≡ x)
answered None true x h e = (refl, refl, cc)
answered None false x h e = let z : ◌≡◌ {A = ℕ} 0 1 = cc in absurd (omega arith)
answered (Some at) room x h e = let z : ◌≡◌ {A = ℕ} 0 1 = cc in absurd (omega arith)

-- successors below the number of states

next_below : (n : ℕ) (rs : List ByteRange) (default : StateNo) (b : ℕ) → default.0 < n → AllByRecursion (RangeOk n) rs → (next_by rs default b).0 < n
next_below n [] default b d ok = d
next_below n (r ∷ rs) default b d ok =
    elim (in_range r b) as (λ t. (cond t r.next (next_by rs default b)).0 < n) [ true ↦ ok.0.2 | false ↦ next_below n rs default b d ok.1 ]

all_made : {X : Type 0} (P : X → Type 0) (make : ℕ → X) (a n : ℕ) → ((k : ℕ) → k < a + n → P (make k)) → AllByRecursion P (map make (range_with_len a n))
all_made P make a zero each = tt
all_made P make a (suc n) each = (each a (omega arith), all_made P make (a + 1) n (λ k h. each k (omega arith)))

rows_below : (n : ℕ) (ss : List StateRecord) → AllByRecursion (RecordOk n) ss → AllByRecursion (λ s. s.0 < n) (flat_map row_of ss)
rows_below n [] ok = tt
rows_below n (s ∷ ss) ok =
    All-append (λ (x : StateNo). x.0 < n) (row_of s) (flat_map row_of ss)
    (all_made (λ (x : StateNo). x.0 < n) (next_by s.ranges s.default) 0 256 (λ b h. next_below n s.ranges s.default b ok.0.1 ok.0.3))
    (rows_below n ss ok.1)

pub long-row : (s : StateRecord) → length (row_of s) ≡ 256
long-row s = length-map-range_with_len (next_by s.ranges s.default) 0 256

-- values over the first places of a buffer are its first values
pub front_written : {X : Type 0} (buffer values : List X) (n : ℕ) → length values ≡ n → take n (written buffer 0 values) ≡ values
front_written buffer values n e = take_at values (drop (0 + length values) buffer) n e

-- what an answer of a header says of the file
module _ (file : List ℕ) (h : Header) (rows-room marks-room : ℕ) (a : Ok h ≡ read_answer file rows-room marks-room) where
  accepted : fault file ≡ None
  accepted = (answered (fault file) (room_for (word file 5) rows-room marks-room) (header_of file) h a).0

  pub header_is : h ≡ header_of file
  header_is = (answered (fault file) (room_for (word file 5) rows-room marks-room) (header_of file) h a).2

  pub count_is : length (decode file).states ≡ h.states
  count_is = length-records_in (word file 5) (drop 9 file) ∙ ap (λ (x : Header). x.states) (sym header_is)

pub length-rows : (ss : List StateRecord) (n : ℕ) → length ss ≡ n → length (flat_map row_of ss) ≡ 256 * n
length-rows ss n e = length_joined row_of 256 long-row ss ∙ ap (λ (k : ℕ). 256 * k) e

pub length-classes : (ss : List StateRecord) (n : ℕ) → length ss ≡ n → length (map class_of ss) ≡ n
length-classes ss n e = length-map ss class_of ∙ e

module _ (file : List ℕ) (small : (k : ℕ) → get_or file k 0 < 256) (successors : List StateNo) (marks : List ℕ) where
  pub is_its_sources_file : (r : Result Header Refusal) (successors' : List StateNo) (marks' : List ℕ) → r ≡ read_answer file (length successors) (length marks) → IsItsSourcesFile file r successors successors' marks marks'
  is_its_sources_file (Err e) successors' marks' a = tt
  is_its_sources_file (Ok h) successors' marks' a = file_comes_back file (accepted file h (length successors) (length marks) a) small

  pub keeps_limits : (r : Result Header Refusal) (successors' : List StateNo) (marks' : List ℕ) → r ≡ read_answer file (length successors) (length marks) → successors' ≡ filled r successors (rows (decode file)) → marks' ≡ filled r marks (classes (decode file)) → KeepsLimits file r successors successors' marks marks'
  keeps_limits (Err e) successors' marks' a b c = tt
  keeps_limits (Ok h) successors' marks' a b c =
      let ok = (file_comes_back file (accepted file h (length successors) (length marks) a) small).0 in
      let n : ℕ = h.states in
      let count : length (decode file).states ≡ n = count_is file h (length successors) (length marks) a in
      let start = ap (λ (x : Header). x.start.0) (header_is file h (length successors) (length marks) a) in
      let long = length-rows (decode file).states n count in
      let many = length-classes (decode file).states n count in
      let held : take (256 * n) successors' ≡ rows (decode file) = ap (take (256 * n)) b ∙ front_written successors (rows (decode file)) (256 * n) long in
      let kinds : take n marks' ≡ classes (decode file) = ap (take n) c ∙ front_written marks (classes (decode file)) n many in
      record {
        some = omega (arith, ok.0, count);
        few = omega (arith, ok.1, count);
        start_below = omega (arith, ok.2, count, start);
        successors_count = ap length held ∙ long;
        successors_below = subst (AllByRecursion (λ (s : StateNo). s.0 < n)) (sym held) (rows_below n (decode file).states (subst (λ (k : ℕ). AllByRecursion (RecordOk k) (decode file).states) count ok.3));
        classes_count = ap length kinds ∙ many;
      }

  -- a source comes back

  pub gives_source_back : (r : Result Header Refusal) (successors' : List StateNo) (marks' : List ℕ) → r ≡ read_answer file (length successors) (length marks) → successors' ≡ filled r successors (rows (decode file)) → marks' ≡ filled r marks (classes (decode file)) → GivesSourceBack file r successors successors' marks marks'
  gives_source_back r successors' marks' a b c source ok written_from room =
      let back = source_comes_back source ok in
      let none : fault file ≡ None = ap fault written_from ∙ back.0 in
      let says : decode file ≡ source = ap decode written_from ∙ back.1 in
      let count : word file 5 ≡ length source.states = sym (length-records_in (word file 5) (drop 9 file)) ∙ ap (λ (x : Source). length x.states) says in
      let start : word file 7 ≡ source.start = ap (λ (x : Source). x.start) says in
      let answer : r ≡ Ok (header_of file) = a ∙ read_ok file (length successors) (length marks) none (omega (arith, count, room.0)) (omega (arith, count, room.1)) in (
        answer ∙ (λ i. Ok (record { states = count i; start = state_no (start i) })),
        b ∙ ((λ i. filled (answer i) successors (rows (says i)))),
        c ∙ ((λ i. filled (answer i) marks (classes (says i)))),
      )

-- one range a byte

one_by_one : (a : Dfa) (s : ℕ) (default : StateNo) (c from n : ℕ) → from ≤ c → c < from + n → next_by (map (one_byte a s) (range_with_len from n)) default c ≡ state_no (a.next s c)
one_by_one a s default c from zero low high = absurd (omega arith)
one_by_one a s default c from (suc n) low high =
    ⊎_elim
    (λ (e : from ≡ c). cond-true (in_range (one_byte a s from) c) _ _ (and_from (leb from c) (leb c from) (le-leb from c low) (le-leb c from (omega arith))) ∙ ap (λ (b : ℕ). state_no (a.next s b)) e)
    (λ (ne : from ≡ c → ⊥).
    let later : from < c = omega (arith, ne) in
    cond-false (in_range (one_byte a s from) c) _ _ (ap (λ (t : Bool). t && leb c from) (le-leb from c low) ∙ lt-leb c from later)
    ∙ one_by_one a s default c (from + 1) n (omega arith) (omega arith))
    (cases_eq from c)

record_ok : (a : Dfa) → Sound a → (s : ℕ) → s < a.states → RecordOk a.states (record_of a s)
record_ok a sound s h = (
  sound.class_byte s h,
  omega (arith, sound.some),
  omega (arith, length-map-range_with_len (one_byte a s) 0 256),
  all_made (RangeOk a.states) (one_byte a s) 0 256 (λ b lt. (omega arith, omega arith, sound.next_below s b h (omega arith))),
)

length_states : (a : Dfa) → length (source_of a).states ≡ a.states
length_states a = length-map-range_with_len (record_of a) 0 a.states

source_ok : (a : Dfa) → Sound a → SourceOk (source_of a)
source_ok a sound =
    let n = length_states a in
    subst (λ (k : ℕ). (1 ≤ k) × (k ≤ 512) × (a.start < k) × AllByRecursion (RecordOk k) (source_of a).states) (sym n)
    (sound.some, sound.few, sound.start_below, all_made (RecordOk a.states) (record_of a) 0 a.states (λ s h. record_ok a sound s (omega arith)))

-- the successor of the state s on the byte c stands at its place
row_place : (a : Dfa) (after : List StateNo) (s c : ℕ) → s < a.states → c < 256 → get_or (rows (source_of a) ++ after) (256 * s + c) (state_no 0) ≡ state_no (a.next s c)
row_place a after s c hs hc =
    part_of_item row_of 256 long-row (state_no 0) [] after (source_of a).states s c (256 * s + c) (record_of a s) (omega (arith, length_states a)) hc (omega arith)
    ∙ (ap (λ (x : StateRecord). get_or (row_of x) c (state_no 0)) (get_or-map-range_with_len (record_of a) 0 a.states s s (record_of a s) hs (omega arith))
    ∙ (get_or-map-range_with_len (next_by (record_of a s).ranges (state_no 0)) 0 256 c c (state_no 0) hc (omega arith)
    ∙ one_by_one a s (state_no 0) c 0 256 (omega arith) (omega arith)))

class_place : (a : Dfa) (s : ℕ) → s < a.states → get_or (classes (source_of a)) s 0 ≡ a.class s
class_place a s h =
    get_or-map class_of (source_of a).states s (record_of a s) 0 (omega (arith, length_states a))
    ∙ ap class_of (get_or-map-range_with_len (record_of a) 0 a.states s s (record_of a s) h (omega arith))

-- the automaton that buffers hold once its source was written over them
module _ (a : Dfa) (successors successors' : List StateNo) (marks marks' : List ℕ) (s-is : successors' ≡ written successors 0 (rows (source_of a))) (m_is : marks' ≡ written marks 0 (classes (source_of a))) where
  header : Header
  header = record { states = length (source_of a).states; start = state_no a.start }

  same-held : Same (dfa (held_in header successors' marks')) a
  unfolding header
  same-held =
      let n : ℕ = length (source_of a).states in
      let held : take (256 * n) successors' ≡ rows (source_of a) = ap (take (256 * n)) s-is ∙ front_written successors (rows (source_of a)) (256 * n) (length-rows (source_of a).states n refl) in
      let kinds : take n marks' ≡ classes (source_of a) = ap (take n) m_is ∙ front_written marks (classes (source_of a)) n (length-classes (source_of a).states n refl) in
      record {
        states = length_states a;
        start = refl;
        next = λ s c hs hc. ap (λ (l : List StateNo). (get_or l (256 * s + c) (state_no 0)).0) (held ∙ sym (append-nil (rows (source_of a)))) ∙ ap (λ (x : StateNo). x.0) (row_place a [] s c hs hc);
        class = λ s h. ap (λ (l : List ℕ). get_or l s 0) kinds ∙ class_place a s h;
      }

pub gives_automaton_back : (file : List ℕ) (small : (k : ℕ) → get_or file k 0 < 256) (successors : List StateNo) (marks : List ℕ) (r : Result Header Refusal) (successors' : List StateNo) (marks' : List ℕ) → r ≡ read_answer file (length successors) (length marks) → successors' ≡ filled r successors (rows (decode file)) → marks' ≡ filled r marks (classes (decode file)) → GivesAutomatonBack file r successors successors' marks marks'
unfolding header
gives_automaton_back file small successors marks r successors' marks' x y z a sound from room =
    let back = gives_source_back file small successors marks r successors' marks' x y z (source_of a) (source_ok a sound) from (subst (λ (k : ℕ). Room k successors marks) (sym (length_states a)) room) in
    subst (λ (v : Result Header Refusal). MatchResult v (λ h. Same (dfa (held_in h successors' marks')) a) (λ _. ⊥)) (sym back.0)
    (same-held a successors successors' marks marks' back.1 back.2)
