-- The ranges of a row of successors, and what they decide.
use Rattle.std.proofs.Common.{◌≡◌, ℕ, zero, suc, ◌+◌, ◌-◌, ◌<◌, ◌≤◌, Bool, true, false, cond, not, ◌⊎◌, inl, inr, eqb, leb, List, [], ◌∷◌, ◌++◌, length, get_or, sym, refl, ap, ◌∙◌, subst, ⊎_elim, arith, append-nil, append_assoc, length-append}
use Rattle.std.specs.List.{flat_map, AllByRecursion}
use Rattle.std.proofs.ByRecursion.{All-append}
use Rattle.std.proofs.lemmas.Grind.{flat_map-append}
use Rattle.std.proofs.lemmas.Bool.{cases_eq, cases_lt, cond-true, cond-false, eq-eqb, ne_eqb, and_from, and_left, and_right, le-leb, lt-leb}
use Rattle.ternary.specs.declared.words.StateNo.{StateNo}
use Rattle.automaton.specs.declared.words.ByteRange.{ByteRange}
use Rattle.automaton.specs.File.{state_no, range_bytes, next_by, in_range}
use Rattle.automaton.specs.Laws.{RangeOk}
use Rattle.automaton_writer.specs.Filed.{run_range, ranges_from, ranges_of, Leads}

-- ---- one run more

module _ (next : ℕ → ℕ) (low at k : ℕ) where
  pub from-same : next at ≡ next low → ranges_from next low at (suc k) ≡ ranges_from next low (at + 1) k
  unfolding ranges_from
  from-same e = cond-true (eqb (next at) (next low)) _ _ (eq-eqb (next at) (next low) e)

  pub from-other : (next at ≡ next low → ⊥) → ranges_from next low at (suc k) ≡ run_range (next 0) low (at - 1) (next low) ++ ranges_from next at (at + 1) k
  unfolding ranges_from
  from-other ne = cond-false (eqb (next at) (next low)) _ _ (ne_eqb (next at) (next low) ne)

pub from-end : (next : ℕ → ℕ) (low at : ℕ) → ranges_from next low at 0 ≡ run_range (next 0) low (at - 1) (next low)
unfolding ranges_from
from-end next low at = refl

pub all-ranges : (next : ℕ → ℕ) → ranges_of next ≡ ranges_from next 0 1 255
unfolding ranges_of
all-ranges next = refl

-- ---- what a range decides

in-range : (low high to c : ℕ) → low ≤ c → c ≤ high → in_range (record { low = low; high = high; next = state_no to }) c ≡ true
in-range low high to c a b = and_from (leb low c) (leb c high) (le-leb low c a) (le-leb c high b)

out-of-range : (low high to c : ℕ) → (c < low) ⊎ (high < c) → in_range (record { low = low; high = high; next = state_no to }) c ≡ false
out-of-range low high to c (inl a) = and_left (leb low c) (leb c high) (lt-leb low c a)
out-of-range low high to c (inr b) = and_right (leb low c) (leb c high) (lt-leb c high b)

module _ (default low high to c : ℕ) (rest : List ByteRange) where
  -- a byte of the run
  inside-run : low ≤ c → c ≤ high → next_by rest (state_no default) c ≡ state_no default → next_by (run_range default low high to ++ rest) (state_no default) c ≡ state_no to
  inside-run a b e =
      ⊎_elim
      (λ same. ap (λ xs. next_by (xs ++ rest) (state_no default) c) (cond-true (eqb to default) [] _ (eq-eqb to default same)) ∙ e ∙ ap state_no (sym same))
      (λ ne. ap (λ xs. next_by (xs ++ rest) (state_no default) c) (cond-false (eqb to default) [] _ (ne_eqb to default ne)) ∙ cond-true _ (state_no to) (next_by rest (state_no default) c) (in-range low high to c a b))
      (cases_eq to default)

  -- a byte outside the run
  outside-run : (c < low) ⊎ (high < c) → next_by (run_range default low high to ++ rest) (state_no default) c ≡ next_by rest (state_no default) c
  outside-run out =
      ⊎_elim
      (λ same. ap (λ xs. next_by (xs ++ rest) (state_no default) c) (cond-true (eqb to default) [] _ (eq-eqb to default same)))
      (λ ne. ap (λ xs. next_by (xs ++ rest) (state_no default) c) (cond-false (eqb to default) [] _ (ne_eqb to default ne)) ∙ cond-false _ (state_no to) (next_by rest (state_no default) c) (out-of-range low high to c out))
      (cases_eq to default)

module _ (next : ℕ → ℕ) where
  abbrev d : StateNo
  d = state_no (next 0)

  alone : (low at : ℕ) → ranges_from next low at 0 ≡ run_range (next 0) low (at - 1) (next low) ++ []
  alone low at = from-end next low at ∙ sym (append-nil (run_range (next 0) low (at - 1) (next low)))

  -- no range has a byte before all of them
  before-ranges : (low at k c : ℕ) → low < at → c < low → next_by (ranges_from next low at k) d c ≡ d
  before-ranges low at zero c h lt =
      ap (λ xs. next_by xs d c) (alone low at) ∙ outside-run (next 0) low (at - 1) (next low) c [] (inl lt)
  before-ranges low at (suc k) c h lt =
      ⊎_elim
      (λ e. ap (λ xs. next_by xs d c) (from-same next low at k e) ∙ before-ranges low (at + 1) k c (omega arith) lt)
      (λ ne.
      ap (λ xs. next_by xs d c) (from-other next low at k ne)
      ∙ outside-run (next 0) low (at - 1) (next low) c (ranges_from next at (at + 1) k) (inl lt)
      ∙ before-ranges at (at + 1) k c (omega arith) (omega arith))
      (cases_eq (next at) (next low))

  -- the ranges and the default lead each byte to its successor
  pub ranges-decide : (low at k c : ℕ) → low < at → ((b : ℕ) → low ≤ b → b < at → next b ≡ next low) → low ≤ c → c < at + k → next_by (ranges_from next low at k) d c ≡ state_no (next c)
  ranges-decide low at zero c h run a b =
      ap (λ xs. next_by xs d c) (alone low at)
      ∙ inside-run (next 0) low (at - 1) (next low) c [] a (omega arith) refl
      ∙ ap state_no (sym (run c a (omega arith)))
  ranges-decide low at (suc k) c h run a b =
      ⊎_elim
      (λ e.
      ap (λ xs. next_by xs d c) (from-same next low at k e)
      ∙ ranges-decide low (at + 1) k c (omega arith)
      (λ x l r. ⊎_elim (λ lt. run x l lt) (λ ge. let here : x ≡ at = omega arith in ap next here ∙ e) (cases_lt x at))
      a (omega arith))
      (λ ne.
      ap (λ xs. next_by xs d c) (from-other next low at k ne)
      ∙ ⊎_elim
      (λ lt.
      inside-run (next 0) low (at - 1) (next low) c (ranges_from next at (at + 1) k) a (omega arith) (before-ranges at (at + 1) k c (omega arith) lt)
      ∙ ap state_no (sym (run c a lt)))
      (λ ge.
      outside-run (next 0) low (at - 1) (next low) c (ranges_from next at (at + 1) k) (inr (omega arith))
      ∙ ranges-decide at (at + 1) k c (omega arith) (λ x l r. let here : x ≡ at = omega arith in ap next here) ge (omega arith))
      (cases_lt c at))
      (cases_eq (next at) (next low))

  -- ---- the ranges keep the rules of the format

  module _ (n : ℕ) (low_next : (b : ℕ) → b < 256 → next b < n) where
    run-ok : (low high : ℕ) → low ≤ high → high < 256 → AllByRecursion (RangeOk n) (run_range (next 0) low high (next low))
    run-ok low high a b =
        ⊎_elim
        (λ e. subst (AllByRecursion (RangeOk n)) (sym (cond-true (eqb (next low) (next 0)) [] _ (eq-eqb (next low) (next 0) e))) tt)
        (λ ne. subst (AllByRecursion (RangeOk n)) (sym (cond-false (eqb (next low) (next 0)) [] _ (ne_eqb (next low) (next 0) ne))) ((a, b, low_next low (omega arith)), tt))
        (cases_eq (next low) (next 0))

    pub ranges-ok : (low at k : ℕ) → low < at → at + k ≤ 256 → AllByRecursion (RangeOk n) (ranges_from next low at k)
    ranges-ok low at zero h m = subst (AllByRecursion (RangeOk n)) (sym (from-end next low at)) (run-ok low (at - 1) (omega arith) (omega arith))
    ranges-ok low at (suc k) h m =
        ⊎_elim
        (λ e. subst (AllByRecursion (RangeOk n)) (sym (from-same next low at k e)) (ranges-ok low (at + 1) k (omega arith) (omega arith)))
        (λ ne.
        subst (AllByRecursion (RangeOk n)) (sym (from-other next low at k ne))
        (All-append _ _ _ (run-ok low (at - 1) (omega arith) (omega arith)) (ranges-ok at (at + 1) k (omega arith) (omega arith))))
        (cases_eq (next at) (next low))

  run-short : (low high : ℕ) → length (run_range (next 0) low high (next low)) ≤ 1
  run-short low high = go (eqb (next low) (next 0))
    where
      go : (b : Bool) → length {A = ByteRange} (cond b [] (record { low = low; high = high; next = state_no (next low) } ∷ [])) ≤ 1
      go true = omega arith
      go false = omega arith

  pub ranges-short : (low at k : ℕ) → length (ranges_from next low at k) ≤ k + 1
  ranges-short low at zero = omega (arith, ap length (from-end next low at), run-short low (at - 1))
  ranges-short low at (suc k) =
      ⊎_elim
      (λ e. omega (arith, ap length (from-same next low at k e), ranges-short low (at + 1) k))
      (λ ne.
      omega (arith, ap length (from-other next low at k ne), length-append (run_range (next 0) low (at - 1) (next low)) (ranges_from next at (at + 1) k), run-short low (at - 1), ranges-short at (at + 1) k))
      (cases_eq (next at) (next low))

-- ---- their bytes

-- one byte more that leads on from the same run
pub bytes-same : (done : List ℕ) (next : ℕ → ℕ) (low at : ℕ) → at < 256 → next at ≡ next low → done ++ flat_map range_bytes (ranges_from next low at (256 - at)) ≡ done ++ flat_map range_bytes (ranges_from next low (at + 1) (256 - (at + 1)))
bytes-same done next low at h e =
    let left : 256 - at ≡ suc (256 - (at + 1)) = omega arith in
    ap (λ xs. done ++ flat_map range_bytes xs) (ap (ranges_from next low at) left ∙ from-same next low at (256 - (at + 1)) e)

-- one byte more that ends a run
pub bytes-other : (done : List ℕ) (next : ℕ → ℕ) (low at : ℕ) → at < 256 → (next at ≡ next low → ⊥) → done ++ flat_map range_bytes (ranges_from next low at (256 - at)) ≡ (done ++ flat_map range_bytes (run_range (next 0) low (at - 1) (next low))) ++ flat_map range_bytes (ranges_from next at (at + 1) (256 - (at + 1)))
bytes-other done next low at h ne =
    let left : 256 - at ≡ suc (256 - (at + 1)) = omega arith in
    let run : List ByteRange = run_range (next 0) low (at - 1) (next low) in
    let rest : List ByteRange = ranges_from next at (at + 1) (256 - (at + 1)) in
    ap (λ xs. done ++ flat_map range_bytes xs) (ap (ranges_from next low at) left ∙ from-other next low at (256 - (at + 1)) ne)
    ∙ ap (λ xs. done ++ xs) (flat_map-append range_bytes run rest)
    ∙ sym (append_assoc done (flat_map range_bytes run) (flat_map range_bytes rest))

-- no byte is left
pub bytes-end : (done : List ℕ) (next : ℕ → ℕ) (low : ℕ) → done ++ flat_map range_bytes (ranges_from next low 256 0) ≡ done ++ flat_map range_bytes (run_range (next 0) low 255 (next low))
bytes-end done next low = ap (λ xs. done ++ flat_map range_bytes xs) (from-end next low 256)

-- ---- a turn of the loop over the bytes

differ : (x y : ℕ) → not (eqb x y) ≡ true → x ≡ y → ⊥
differ x y h e = let z : ◌≡◌ {A = ℕ} 0 1 = ap (λ b. cond b 0 1) (sym h ∙ ap not (eq-eqb x y e)) in absurd (omega arith)

agree : (x y : ℕ) → not (eqb x y) ≡ false → x ≡ y
agree x y h =
    ⊎_elim
    (λ e. e)
    (λ ne. let z : ◌≡◌ {A = ℕ} 0 1 = ap (λ b. cond b 0 1) (sym (ap not (ne_eqb x y ne)) ∙ h) in absurd (omega arith))
    (cases_eq x y)

module _ (row : List StateNo) (next : ℕ → ℕ) (leads : Leads row next) (low at : ℕ) (inside : low < at) (last : at < 256) where
  abbrev to : ℕ → ℕ
  to b = (get_or row b (state_no 0)).0

  to-next : (b : ℕ) → b < 256 → to b ≡ next b
  to-next b h = ap (λ (s : StateNo). s.0) (leads b h)

  pub turn-same : (old new : List ℕ) (low' : ℕ) → not (eqb (to at) (to low)) ≡ false → new ≡ old → low' ≡ low → new ++ flat_map range_bytes (ranges_from next low' (at + 1) (256 - (at + 1))) ≡ old ++ flat_map range_bytes (ranges_from next low at (256 - at))
  turn-same old new low' h e l =
      ap (λ xs. xs ++ flat_map range_bytes (ranges_from next low' (at + 1) (256 - (at + 1)))) e
      ∙ ap (λ k. old ++ flat_map range_bytes (ranges_from next k (at + 1) (256 - (at + 1)))) l
      ∙ sym (bytes-same old next low at last (sym (to-next at last) ∙ agree (to at) (to low) h ∙ to-next low (omega arith)))

  pub turn-other : (old new : List ℕ) (low' : ℕ) → not (eqb (to at) (to low)) ≡ true → new ≡ old ++ flat_map range_bytes (run_range (to 0) low (at - 1) (to low)) → low' ≡ at → new ++ flat_map range_bytes (ranges_from next low' (at + 1) (256 - (at + 1))) ≡ old ++ flat_map range_bytes (ranges_from next low at (256 - at))
  turn-other old new low' h e l =
      ap (λ xs. xs ++ flat_map range_bytes (ranges_from next low' (at + 1) (256 - (at + 1)))) e
      ∙ ap (λ k. (old ++ flat_map range_bytes (run_range (to 0) low (at - 1) (to low))) ++ flat_map range_bytes (ranges_from next k (at + 1) (256 - (at + 1)))) l
      ∙ ap (λ d. (old ++ flat_map range_bytes (run_range d low (at - 1) (to low))) ++ flat_map range_bytes (ranges_from next at (at + 1) (256 - (at + 1)))) (to-next 0 (omega arith))
      ∙ ap (λ t. (old ++ flat_map range_bytes (run_range (next 0) low (at - 1) t)) ++ flat_map range_bytes (ranges_from next at (at + 1) (256 - (at + 1)))) (to-next low (omega arith))
      ∙ sym (bytes-other old next low at last (λ same. differ (to at) (to low) h (to-next at last ∙ same ∙ sym (to-next low (omega arith)))))

-- the last run
pub last-turn : (row : List StateNo) (next : ℕ → ℕ) → Leads row next → (low : ℕ) → low < 256 → (old : List ℕ) → old ++ flat_map range_bytes (run_range (get_or row 0 (state_no 0)).0 low 255 (get_or row low (state_no 0)).0) ≡ old ++ flat_map range_bytes (ranges_from next low 256 0)
last-turn row next leads low h old =
    ap (λ d. old ++ flat_map range_bytes (run_range d low 255 (get_or row low (state_no 0)).0)) (ap (λ (s : StateNo). s.0) (leads 0 (omega arith)))
    ∙ ap (λ t. old ++ flat_map range_bytes (run_range (next 0) low 255 t)) (ap (λ (s : StateNo). s.0) (leads low h))
    ∙ sym (bytes-end old next low)
