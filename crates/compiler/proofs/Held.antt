-- The automaton in the filled buffers.
use Rattle.std.proofs.Common.{◌≡◌, ℕ, zero, suc, ◌+◌, ◌-◌, ◌*◌, ◌/◌, ◌%◌, ◌<◌, ◌≤◌, Bool, true, false, cond, List, [], ◌∷◌, ◌++◌, length, get_or, take, drop, Ok, Err, IfOk, Result, sym, refl, ap, ◌∙◌, subst, ⊎_elim, zero-add, append-nil, append_assoc, arith}
use Rattle.std.specs.List.{range_with_len, flat_map, AllByRecursion}
use Rattle.std.proofs.lemmas.List.{get_or_append_left, get_or-append_right, take_at}
use Rattle.std.proofs.lemmas.List.FromFn.{length-range_with_len, get_or-range_with_len, length-map-range_with_len, get_or-map-range_with_len}
use Rattle.std.proofs.lemmas.Bool.{cases_order}
use Rattle.ternary.specs.declared.refusal.Refusal.{Refusal}
use Rattle.ternary.specs.declared.words.StateNo.{StateNo}
use Rattle.fields.specs.Fields.{written}
use Rattle.fields.proofs.Writes.{length_joined}
use Rattle.automaton.specs.declared.words.Header.{Header}
use Rattle.automaton.specs.File.{state_no, room_for, filled}
use Rattle.automaton.specs.Runs.{Dfa, reach}
use Rattle.automaton.specs.Limits.{Within, dfa}
use Rattle.automaton.specs.Laws.{held_in}
use Rattle.patterns.specs.Language.{Word, Regex}
use Rattle.patterns.specs.Patterns.{Class}
use Rattle.patterns.specs.Subsets.{Bytes, Automaton, automaton_of, states_of, run}
use Rattle.patterns.specs.Laws.{Follows}
use Rattle.patterns.proofs.Runs.{sets-stand, automaton-stands}
use Rattle.syntax.specs.declared.places.place.Place.{Place}
use Rattle.syntax.specs.Compile.{texts_of, expressions}
use Rattle.syntax.proofs.Compiling.{few-sets, compile-stands}
use Rattle.compiler.specs.Filled.{row_of, rows, classes}
use Rattle.compiler.specs.Compiled.{Told, told, header_of, answer_to, rows_of_outcome, classes_of_outcome, compile_answer, compiled_rows, compiled_classes, IsBuilt}
use Rattle.compiler.specs.Laws.{Marks, KeepsLimits, MarksPatterns}
use Rattle.compiler.proofs.Filling.{long-row}

-- ---- what stands in the buffers

module _ (a : Automaton) where
  pub length-rows : length (rows a) ≡ 256 * a.states
  length-rows = length_joined (row_of a) 256 (long-row a) (range_with_len 0 a.states) ∙ ap (λ n. 256 * n) (length-range_with_len 0 a.states)

  pub held-rows : (old : List StateNo) → take (256 * a.states) (written old 0 (rows a)) ≡ rows a
  held-rows old = take_at (rows a) (drop (0 + length (rows a)) old) (256 * a.states) length-rows

  pub held-classes : (old : List ℕ) → take a.states (written old 0 (classes a)) ≡ classes a
  held-classes old = take_at (classes a) (drop (0 + length (classes a)) old) a.states (length-map-range_with_len a.class 0 a.states)

-- an item of lists of 256 that stand one after another
flat-at : {X : Type 0} (f : ℕ → List X) → ((x : ℕ) → length (f x) ≡ 256) → (xs : List ℕ) (s b : ℕ) (d : X) → s < length xs → b < 256 → get_or (flat_map f xs) (256 * s + b) d ≡ get_or (f (get_or xs s 0)) b d
flat-at f each [] s b d h lt = absurd (omega arith)
flat-at f each (x ∷ xs) zero b d h lt =
    let same : 256 * 0 + b ≡ b = omega arith in
    ap (λ i. get_or (f x ++ flat_map f xs) i d) same ∙ get_or_append_left (f x) (flat_map f xs) d b (omega (arith, each x))
flat-at f each (x ∷ xs) (suc s) b d h lt =
    let less : 256 * suc s + b - 256 ≡ 256 * s + b = omega arith in
    get_or-append_right (f x) (flat_map f xs) 256 (256 * suc s + b) d (each x) (omega arith)
    ∙ ap (λ i. get_or (flat_map f xs) i d) less
    ∙ flat-at f each xs s b d (omega arith) lt

module _ (a : Automaton) where
  pub next-held : (s b : ℕ) → s < a.states → b < 256 → get_or (rows a) (256 * s + b) (state_no 0) ≡ state_no (a.next s b)
  next-held s b h lt =
      flat-at (row_of a) (long-row a) (range_with_len 0 a.states) s b (state_no 0) (omega (arith, length-range_with_len 0 a.states)) lt
      ∙ ap (λ k. get_or (row_of a k) b (state_no 0)) (get_or-range_with_len 0 a.states s 0 h ∙ zero-add s)
      ∙ get_or-map-range_with_len (λ c. state_no (a.next s c)) 0 256 b b (state_no 0) lt (zero-add b)

  pub class-held : (s : ℕ) → s < a.states → get_or (classes a) s 0 ≡ a.class s
  class-held s h = get_or-map-range_with_len a.class 0 a.states s s 0 h (zero-add s)

-- ---- runs

run-snoc : (a : Automaton) (s : ℕ) (w : Word) (b : ℕ) → run a s (w ++ (b ∷ [])) ≡ a.next (run a s w) b
run-snoc a s [] b = refl
run-snoc a s (c ∷ w) b = run-snoc a (a.next s c) w b

bytes_snoc : (w : Word) (b : ℕ) → Bytes w → b < 256 → Bytes (w ++ (b ∷ []))
bytes_snoc [] b h lt = (lt, tt)
bytes_snoc (c ∷ w) b h lt = (h.0, bytes_snoc w b h.1 lt)

-- an automaton that has the same successors follows the run
module _ (a : Automaton) (d : Dfa) (same : (s b : ℕ) → s < a.states → b < 256 → d.next s b ≡ a.next s b) (inside : (w : Word) → Bytes w → run a 0 w < a.states) where
  same-run : (w before : Word) → Bytes before → Bytes w → reach d (run a 0 before) w ≡ run a 0 (before ++ w)
  same-run [] before x y = ap (run a 0) (sym (append-nil before))
  same-run (b ∷ w) before x y =
      ap (λ s. reach d s w) (same (run a 0 before) b (inside before x) y.0 ∙ sym (run-snoc a 0 before b))
      ∙ same-run w (before ++ (b ∷ [])) (bytes_snoc before b x y.0) y.1
      ∙ ap (run a 0) (append_assoc before (b ∷ []) w)

-- ---- the limits

module _ (rs : List Regex) (few : length (states_of rs) ≤ 512) where
  -- an input leads to each state
  reached-state : (s : ℕ) → s < length (states_of rs) → (input : Word) × Bytes input × (run (automaton_of rs) 0 input ≡ s)
  reached-state s h =
      let by = (sets-stand rs).1 s h in
      let f : Follows rs (automaton_of rs) by.0 = automaton-stands rs few by.0 by.1 in
      let r : ℕ = run (automaton_of rs) 0 by.0 in (
        by.0,
        by.1,
        ⊎_elim (λ e. e)
            (⊎_elim
            (λ lt. absurd ((sets-stand rs).0 r s lt h (f.set ∙ sym by.2)))
            (λ gt. absurd ((sets-stand rs).0 s r gt f.within (by.2 ∙ sym f.set))))
            (cases_order r s),
      )

  next-below : (s b : ℕ) → s < length (states_of rs) → b < 256 → (automaton_of rs).next s b < length (states_of rs)
  next-below s b h lt =
      let by = reached-state s h in
      let f : Follows rs (automaton_of rs) (by.0 ++ (b ∷ [])) = automaton-stands rs few (by.0 ++ (b ∷ [])) (bytes_snoc by.0 b by.1 lt) in
      subst (λ k. k < length (states_of rs)) (run-snoc (automaton_of rs) 0 by.0 b ∙ ap (λ k. (automaton_of rs).next k b) by.2) f.within

all-places : (P : StateNo → Type 0) (xs : List StateNo) → ((i : ℕ) → i < length xs → P (get_or xs i (state_no 0))) → AllByRecursion P xs
all-places P [] h = tt
all-places P (x ∷ xs) h = (h 0 (omega arith), all-places P xs (λ i lt. h (suc i) (omega arith)))

pub limits : (rs : List Regex) → length (states_of rs) ≤ 512 → (old : List StateNo) (marks : List ℕ) → Within (held_in (header_of (automaton_of rs)) (written old 0 (rows (automaton_of rs))) (written marks 0 (classes (automaton_of rs))))
limits rs few old marks =
    let a : Automaton = automaton_of rs in
    let some : 0 < a.states = (automaton-stands rs few [] tt).within in
    record {
      some = omega arith;
      few = few;
      start_below = some;
      successors_count = ap length (held-rows a old) ∙ length-rows a;
      successors_below =
          subst (AllByRecursion (λ x. x.0 < a.states)) (sym (held-rows a old))
          (all-places (λ x. x.0 < a.states) (rows a) (λ i lt.
          let whole : i ≡ 256 * (i / 256) + i % 256 = omega arith in
          let low : i / 256 < a.states = omega (arith, length-rows a) in
          let byte : i % 256 < 256 = omega arith in
          subst (λ x. x.0 < a.states) (sym (ap (λ k. get_or (rows a) k (state_no 0)) whole ∙ next-held a (i / 256) (i % 256) low byte))
          (next-below rs few (i / 256) (i % 256) low byte)));
      classes_count = ap length (held-classes a marks) ∙ length-map-range_with_len a.class 0 a.states;
    }

-- ---- the marks

module _ (a : Automaton) (old : List StateNo) (marks : List ℕ) where
  abbrev held : Dfa
  held = dfa (held_in (header_of a) (written old 0 (rows a)) (written marks 0 (classes a)))

  same-next : (s b : ℕ) → s < a.states → b < 256 → held.next s b ≡ a.next s b
  same-next s b h lt =
      ap (λ xs. (get_or xs (256 * s + b) (state_no 0)).0) (held-rows a old) ∙ ap (λ (x : StateNo). x.0) (next-held a s b h lt)

  same-class : (s : ℕ) → s < a.states → held.class s ≡ a.class s
  same-class s h = ap (λ xs. get_or xs s 0) (held-classes a marks) ∙ class-held a s h

  pub marks-held : (rs : List Regex) → ((input : Word) → Bytes input → Follows rs a input) → (input : Word) → Bytes input → Marks rs held input
  marks-held rs follows input bytes =
      let f : Follows rs a input = follows input bytes in
      let to : reach held 0 input ≡ run a 0 input = same-run a held same-next (λ w x. (follows w x).within) input [] tt bytes in
      record {
        within = subst (λ s. s < a.states) (sym to) f.within;
        class = subst (Class rs input) (sym (ap held.class to ∙ same-class (run a 0 input) f.within)) f.class;
      }

-- ---- the answer

ok-header : (b : Bool) (h g : Header) → ◌≡◌ {A = Told} (Ok h) (cond b (Ok g) (Err (3, []))) → h ≡ g
ok-header true h g e = cc
ok-header false h g e = absurd (let z : ◌≡◌ {A = ℕ} 0 1 = cc in omega arith)

module _ (buffer : List ℕ) (ps : List Place) (s0 s1 : List StateNo) (c0 c1 : List ℕ) where
  pub keeps-limits : (answer : Result Header Refusal) → told answer ≡ compile_answer buffer ps (length s0) (length c0) → s1 ≡ filled answer s0 (compiled_rows buffer ps) → c1 ≡ filled answer c0 (compiled_classes buffer ps) → IfOk answer (λ _. IsBuilt buffer ps) → KeepsLimits buffer ps answer s1 c1
  unfolding compile_answer compiled_rows compiled_classes
  keeps-limits (Err e) is s c b = tt
  keeps-limits (Ok h) is s c b =
      let rs : List Regex = expressions (texts_of buffer ps) in
      let a : Automaton = automaton_of rs in
      let header : h ≡ header_of a = ok-header (room_for a.states (length s0) (length c0)) h (header_of a) (is ∙ ap (λ o. answer_to o (length s0) (length c0)) b.outcome) in
      let s_is : s1 ≡ written s0 0 (rows a) = s ∙ ap (λ o. written s0 0 (rows_of_outcome o)) b.outcome in
      let c_is : c1 ≡ written c0 0 (classes a) = c ∙ ap (λ o. written c0 0 (classes_of_outcome o)) b.outcome in
      subst (λ x. Within (held_in x s1 c1)) (sym header)
      (subst (λ xs. Within (held_in (header_of a) xs c1)) (sym s_is)
      (subst (λ xs. Within (held_in (header_of a) (written s0 0 (rows a)) xs)) (sym c_is) (limits rs (few-sets rs b.few) s0 c0)))

  pub marks-patterns : (answer : Result Header Refusal) → told answer ≡ compile_answer buffer ps (length s0) (length c0) → s1 ≡ filled answer s0 (compiled_rows buffer ps) → c1 ≡ filled answer c0 (compiled_classes buffer ps) → IfOk answer (λ _. IsBuilt buffer ps) → MarksPatterns buffer ps answer s1 c1
  unfolding compile_answer compiled_rows compiled_classes
  marks-patterns (Err e) is s c b = tt
  marks-patterns (Ok h) is s c b =
      let a : Automaton = automaton_of (expressions (texts_of buffer ps)) in
      let header : h ≡ header_of a = ok-header (room_for a.states (length s0) (length c0)) h (header_of a) (is ∙ ap (λ o. answer_to o (length s0) (length c0)) b.outcome) in
      let s_is : s1 ≡ written s0 0 (rows a) = s ∙ ap (λ o. written s0 0 (rows_of_outcome o)) b.outcome in
      let c_is : c1 ≡ written c0 0 (classes a) = c ∙ ap (λ o. written c0 0 (classes_of_outcome o)) b.outcome in
      let means = compile-stands buffer ps a b.outcome in (
        means.0,
        means.1,
        λ input bytes.
            subst (λ x. Marks means.0 (dfa (held_in x s1 c1)) input) (sym header)
            (subst (λ xs. Marks means.0 (dfa (held_in (header_of a) xs c1)) input) (sym s_is)
            (subst (λ xs. Marks means.0 (dfa (held_in (header_of a) (written s0 0 (rows a)) xs)) input) (sym c_is)
            (marks-held a s0 c0 means.0 means.2 input bytes))),
      )
