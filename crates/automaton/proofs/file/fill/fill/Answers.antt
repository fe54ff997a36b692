use Rattle.std.proofs.Common.{rules, ◌≡◌, ℕ, ◌+◌, ◌-◌, ◌*◌, ◌<◌, true, cond, List, [], ◌∷◌, length, drop, Some, None, Option, sym, refl, ap, ◌∙◌, subst, one-mul, zero-add, arith}
use Rattle.std.proofs.lemmas.List.FromFn.{length-map-range_with_len}
use Rattle.fields.specs.Fields.{written}
use Rattle.std.proofs.lemmas.List.{take_rest}
use Rattle.std.specs.Option.{option_map}
use Rattle.automaton.specs.declared.file.record.Record.{Record}
use Rattle.automaton.specs.File.{StateRecord, said, length_fits, record_size, row_of, class_of, next_by, record_in, records_in}
use Rattle.automaton.proofs.Records.{Whole, AllWhole, all_whole, first_whole, first_record, length-records_in, mark_of, record_told, record_long, whole_some}
use Rattle.fields.proofs.Writes.{turn, turned, set-written, put_mid-written, joined_one}
use Rattle.automaton.proofs.file.fill.fill.Goals as goal

pub loop-state-init : goal.loop-state-init
loop-state-init c =
    let n = c.args.states in
    let records = c.args.records.now in
    let none : n ≡ n - 0 = omega arith in
    let sound : AllWhole n n records = all_whole n n 9 records c.requires.sound in (
      subst (λ (k : ℕ). AllWhole n k records) none sound,
      ap (λ (k : ℕ). records_in k records) (sym none),
      refl,
      refl,
    )

-- the record that a turn begins with
here : (n k : ℕ) (rest : List ℕ) → k < n → AllWhole n (n - k) rest → Whole n rest
here n k rest h all = (first_whole n (n - k) (n - (k + 1)) rest (omega arith) all).0

-- what the bytes are taken apart to
told : (rest : List ℕ) (r : Record) (read : Option Record) → read ≡ Some r → option_map said read ≡ cond (length_fits rest) (Some (record_in rest)) None → (length_fits rest ≡ true) × (said r ≡ record_in rest)
told rest r read is e = record_told rest (said r) (ap (option_map said) (sym is) ∙ e)

size_told : (rest : List ℕ) (r : Record) (read : Option Record) → read ≡ Some r → option_map said read ≡ cond (length_fits rest) (Some (record_in rest)) None → 5 + 4 * length (said r).ranges ≡ record_size rest
size_told rest r read is e =
    let t = told rest r read is e in
    ap (λ (s : StateRecord). 5 + 4 * length s.ranges) t.1 ∙ record_long rest t.0

pub unreachable-requires : goal.unreachable-requires
unreachable-requires c =
    let rest = c.loop-state.rest.now in
    let good = here c.args.states c.loop-state.state rest c.loop-state-test.true c.loop-state.invariant.0 in
    let none : c.read.result ≡ None = search rules in
    whole_some c.args.states rest good _ (ap (option_map said) none) c.read.ensures

pub slice_bounds-rest-count : goal.slice_bounds-rest-count
slice_bounds-rest-count c =
    let rest = c.loop-state.rest.now in
    let good = here c.args.states c.loop-state.state rest c.loop-state-test.true c.loop-state.invariant.0 in
    let is : c.read.result ≡ Some c.in-Some.record = search rules in
    omega (arith, good.within, size_told rest c.in-Some.record c.read.result is c.read.ensures, c.size.ensures)

pub slice_bounds-rest-start : goal.slice_bounds-rest-start
slice_bounds-rest-start c =
    let rest = c.loop-state.rest.now in
    let good = here c.args.states c.loop-state.state rest c.loop-state-test.true c.loop-state.invariant.0 in
    let is : c.read.result ≡ Some c.in-Some.record = search rules in
    omega (arith, good.within, size_told rest c.in-Some.record c.read.result is c.read.ensures, c.size.ensures)

long-row : (s : StateRecord) → length (row_of s) ≡ 256
long-row s = length-map-range_with_len (next_by s.ranges s.default) 0 256

pub loop-state-preserved : goal.loop-state-preserved
loop-state-preserved c =
    let n = c.args.states in
    let k = c.loop-state.state in
    let rest = c.loop-state.rest.now in
    let all : List StateRecord = records_in n c.args.records.now in
    let long : length all ≡ n = length-records_in n c.args.records.now in
    let inside : k < length all = omega (arith, long) in
    let is : c.read.result ≡ Some c.in-Some.record = search rules in
    let taken = (told rest c.in-Some.record c.read.result is c.read.ensures).1 in
    let size : ℕ = c.size.result in
    let left = take_rest rest size ∙ ap (λ (w : ℕ). drop w rest) (c.size.ensures ∙ size_told rest c.in-Some.record c.read.result is c.read.ensures) in
    let good = first_whole n (n - k) (n - (k + 1)) rest (omega arith) c.loop-state.invariant.0 in
    let this = first_record (n - k) (n - (k + 1)) k rest all (omega arith) inside c.loop-state.invariant.1 in
    let row = c.write.new.row in
    let row_is = c.write.ensures ∙ ap row_of taken in
    let class = c.class.result in
    let was = c.loop-state.successors in
    let marks = c.loop-state.classes in (
      subst (λ (l : List ℕ). AllWhole n (n - (k + 1)) l) (sym left) good.1,
      ap (records_in (n - (k + 1))) left ∙ this.1,
      turn row_of 256 long-row c.args.successors.now was _ row all 0 k (record_in rest) inside (omega arith) c.loop-state.invariant.2
          (row_is ∙ ap row_of (sym this.0))
          (put_mid-written was row row (256 * k) (256 * k + 256 - 256 * k) refl (omega (arith, ap length row_is, long-row (record_in rest)))
          ∙ ap (λ (a : ℕ). written was a row) (sym (zero-add (256 * k)))),
      turn mark_of 1 (λ _. refl) c.args.classes.now marks _ (class ∷ []) all 0 k (record_in rest) inside (omega arith) c.loop-state.invariant.3
          (ap (λ (v : ℕ). v ∷ []) (c.class.ensures ∙ ap class_of taken) ∙ ap mark_of (sym this.0))
          (set-written marks k class (omega arith) ∙ ap (λ (a : ℕ). written marks a (class ∷ [])) (sym (zero-add (1 * k) ∙ one-mul k))),
    )

pub returns : goal.returns
returns c =
    let n = c.args.states in
    let k = c.loop-state.state in
    let all : List StateRecord = records_in n c.args.records.now in
    let long : length all ≡ n = length-records_in n c.args.records.now in
    record {
      rows = turned row_of 256 long-row c.args.successors.now c.loop-state.successors all 0 k (omega (arith, long)) c.loop-state.invariant.2;
      marks =
          turned mark_of 1 (λ _. refl) c.args.classes.now c.loop-state.classes all 0 k (omega (arith, long)) c.loop-state.invariant.3
          ∙ ap (written c.args.classes.now 0) (joined_one class_of all);
    }
