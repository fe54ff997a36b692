-- The states, by number and entered.
use mathlib.Core.Path.{fun_ext}
use Rattle.std.proofs.Common.{◌≡◌, ℕ, zero, suc, ◌+◌, ◌-◌, ◌<◌, ◌≤◌, Bool, true, false, ltb, List, [], ◌∷◌, ◌++◌, length, get_or, take, map, sym, refl, ap, ◌∙◌, ⊎_elim, add-one, arith, length-append}
use Rattle.std.proofs.lemmas.List.{get_or-map, length-map, length-take-le, get_or-take}
use Rattle.std.proofs.lemmas.Bool.{cases_lt, cond-true, cond-false, lt-ltb, le-ltb}
use Rattle.patterns.specs.Language.{Regex}
use Rattle.patterns.specs.Patterns.{Flags, flags, has, total, none, next}
use Rattle.patterns.specs.Subsets.{same, number, enter, enter_row, turn, found, states_of}
use Rattle.syntax.specs.Compile.{too_many}
use Rattle.patterns.proofs.Sets.{same-decides, tests}
use Rattle.positions.specs.declared.set.Set.{Set}
use Rattle.positions.specs.Sets.{in_set}
use Rattle.positions.specs.Tables.{set_at}
use Rattle.subsets.specs.declared.states.States.{States}
use Rattle.subsets.specs.States.{flags_of, IsWithin, AreStates}
use Rattle.subsets.proofs.NextLemmas.{has-flags_of}

-- ---- numbers

pub number-low : (s : Flags) (ss : List Flags) → number s ss ≤ length ss
number-low s [] = omega arith
number-low s (x ∷ ss) =
    ⊎_elim
    (λ e. omega (arith, cond-true (same x s) 0 (suc (number s ss)) e))
    (λ e. omega (arith, cond-false (same x s) 0 (suc (number s ss)) e, number-low s ss))
    (tests (same x s))

-- the first of the states that is the set has its number
pub number-first : (s : Flags) (ss : List Flags) (i : ℕ) → i ≤ length ss → ((k : ℕ) → k < i → get_or ss k [] ≡ s → ⊥) → (i < length ss → get_or ss i [] ≡ s) → i ≡ number s ss
number-first s [] i h before here = omega arith
number-first s (x ∷ ss) zero h before here = sym (cond-true (same x s) 0 (suc (number s ss)) ((same-decides x s).1 (here (omega arith))))
number-first s (x ∷ ss) (suc i) h before here =
    ap suc (number-first s ss i (omega arith) (λ k lt e. before (suc k) (omega arith) e) (λ lt. here (omega arith)))
    ∙ sym (⊎_elim
    (λ e. absurd (before 0 (omega arith) ((same-decides x s).0 e)))
    (cond-false (same x s) 0 (suc (number s ss)))
    (tests (same x s)))

-- ---- the states of sets

none_of : Set
none_of = record { words = [] }

module _ (st : States) (rs : List Regex) (ss : List Flags) (are : AreStates st rs ss) where
  pub states-length : length ss ≡ st.count
  states-length = ap length are.are ∙ length-map (take st.count st.sets) (flags_of rs) ∙ length-take-le st.count st.sets (omega (arith, are.few, are.room))

  pub state-at : (i : ℕ) → i < st.count → get_or ss i [] ≡ flags_of rs (set_at st.sets i)
  state-at i h =
      ap (λ xs. get_or xs i []) are.are
      ∙ get_or-map (flags_of rs) (take st.count st.sets) i (record { words = [] }) [] (omega (arith, length-take-le st.count st.sets (omega (arith, are.few, are.room))))
      ∙ ap (flags_of rs) (get_or-take st.count st.sets i (record { words = [] }) h)

-- sets with the same flags have the same positions
pub same-positions : (rs : List Regex) (a b : Set) → IsWithin rs a → IsWithin rs b → flags_of rs a ≡ flags_of rs b → (p : ℕ) → in_set a p ≡ in_set b p
same-positions rs a b x y e p = ap (λ f. f p) (sym (has-flags_of rs a x) ∙ ap has e ∙ has-flags_of rs b y)

-- the number of a set that was looked for
pub found-number : (st : States) (rs : List Regex) (ss : List Flags) → AreStates st rs ss → (s : Set) → IsWithin rs s → (i : ℕ) → i ≤ st.count → ((k : ℕ) → k < i → ((p : ℕ) → p < 256 → in_set (set_at st.sets k) p ≡ in_set s p) → ⊥) → (i < st.count → set_at st.sets i ≡ s) → i ≡ number (flags_of rs s) ss
found-number st rs ss are s within i h before here =
    number-first (flags_of rs s) ss i (omega (arith, states-length st rs ss are))
    (λ k lt e. before k lt (λ p small. same-positions rs (set_at st.sets k) s (are.within k (omega arith)) within (sym (state-at st rs ss are k (omega arith)) ∙ e) p))
    (λ lt. let below : i < st.count = omega (arith, states-length st rs ss are) in state-at st rs ss are i below ∙ ap (flags_of rs) (here below))

-- ---- a set is entered

pub enter-there : (s : Flags) (ss : List Flags) → number s ss < length ss → enter ss s ≡ ss
enter-there s ss h = cond-true (ltb (number s ss) (length ss)) ss (ss ++ (s ∷ [])) (lt-ltb (number s ss) (length ss) h)

pub enter-new : (s : Flags) (ss : List Flags) → length ss ≤ number s ss → enter ss s ≡ ss ++ (s ∷ [])
enter-new s ss h = cond-false (ltb (number s ss) (length ss)) ss (ss ++ (s ∷ [])) (le-ltb (number s ss) (length ss) h)

-- ---- the empty set alone

same-flags : (n : ℕ) (f g : ℕ → Bool) → ((p : ℕ) → f p ≡ g p) → flags n f ≡ flags n g
same-flags n f g e = ap (flags n) (fun_ext e)

pub no-states : (st : States) → length st.sets ≡ 512 → st.count ≡ 0 → (rs : List Regex) → AreStates st rs []
no-states st room e rs = record {
  room = room;
  few = omega arith;
  within = λ i h. absurd (omega arith);
  are = ap (λ n. map (flags_of rs) (take n st.sets)) (sym e);
}

pub empty-within : (s : Set) → ((p : ℕ) → in_set s p ≡ false) → (rs : List Regex) → IsWithin rs s
empty-within s empty rs = λ p h. empty p

pub empty-flags : (s : Set) → ((p : ℕ) → in_set s p ≡ false) → (rs : List Regex) → flags_of rs s ≡ none rs
unfolding none
empty-flags s empty rs = same-flags (total rs) (in_set s) (λ p. false) empty

-- ---- turns

pub enter-length : (s : Flags) (ss : List Flags) → length ss ≤ length (enter ss s)
enter-length s ss =
    ⊎_elim
    (λ lt. omega (arith, ap length (enter-there s ss lt)))
    (λ ge. omega (arith, ap length (enter-new s ss ge), length-append ss (s ∷ [])))
    (cases_lt (number s ss) (length ss))

pub row_zero : (row : ℕ → Flags) (ss : List Flags) → enter_row row 0 ss ≡ ss
unfolding enter_row
row_zero row ss = refl

pub row_more : (row : ℕ → Flags) (n : ℕ) (ss : List Flags) → enter_row row (n + 1) ss ≡ enter (enter_row row n ss) (row n)
unfolding enter_row
row_more row n ss = ap (λ k. enter_row row k ss) (add-one n)

pub row-grows : (row : ℕ → Flags) (n j : ℕ) (ss : List Flags) → length (enter_row row n ss) ≤ length (enter_row row (n + j) ss)
row-grows row n zero ss = let same : n ≡ n + 0 = omega arith in omega (arith, ap (λ k. length (enter_row row k ss)) same)
row-grows row n (suc j) ss =
    let same : n + suc j ≡ n + j + 1 = omega arith in
    omega (arith, row-grows row n j ss, ap (λ k. length (enter_row row k ss)) same, ap length (row_more row (n + j) ss), enter-length (row (n + j)) (enter_row row (n + j) ss))

pub turn-row : (rs : List Regex) (ss : List Flags) (m : ℕ) → m < length ss → turn rs ss m ≡ enter_row (next rs (get_or ss m [])) 256 ss
unfolding turn
turn-row rs ss m h = cond-true (ltb m (length ss)) (enter_row (next rs (get_or ss m [])) 256 ss) ss (lt-ltb m (length ss) h)

pub turn-none : (rs : List Regex) (ss : List Flags) (m : ℕ) → length ss ≤ m → turn rs ss m ≡ ss
unfolding turn
turn-none rs ss m h = cond-false (ltb m (length ss)) (enter_row (next rs (get_or ss m [])) 256 ss) ss (le-ltb m (length ss) h)

turn-grows : (rs : List Regex) (ss : List Flags) (m : ℕ) → length ss ≤ length (turn rs ss m)
turn-grows rs ss m =
    let row : ℕ → Flags = next rs (get_or ss m []) in
    ⊎_elim
    (λ lt. omega (arith, ap length (turn-row rs ss m lt), row-grows row 0 256 ss, ap length (row_zero row ss)))
    (λ ge. omega (arith, ap length (turn-none rs ss m ge)))
    (cases_lt m (length ss))

pub found-more : (rs : List Regex) (m : ℕ) → found rs (m + 1) ≡ turn rs (found rs m) m
found-more rs m = ap (found rs) (add-one m)

found-grows : (rs : List Regex) (m j : ℕ) → length (found rs m) ≤ length (found rs (m + j))
found-grows rs m zero = let same : m ≡ m + 0 = omega arith in omega (arith, ap (λ k. length (found rs k)) same)
found-grows rs m (suc j) =
    let same : m + suc j ≡ m + j + 1 = omega arith in
    omega (arith, found-grows rs m j, ap (λ k. length (found rs k)) same, ap length (found-more rs (m + j)), turn-grows rs (found rs (m + j)) (m + j))

found-stays : (rs : List Regex) (m j : ℕ) → length (found rs m) ≤ m → found rs (m + j) ≡ found rs m
found-stays rs m zero h = let same : m + 0 ≡ m = omega arith in ap (found rs) same
found-stays rs m (suc j) h =
    let same : m + suc j ≡ m + j + 1 = omega arith in
    let stays = found-stays rs m j h in
    ap (found rs) same ∙ found-more rs (m + j) ∙ turn-none rs (found rs (m + j)) (m + j) (omega (arith, ap length stays)) ∙ stays

-- all states had their turns
pub found-all : (rs : List Regex) (m : ℕ) → m ≤ 512 → length (found rs m) ≤ m → found rs m ≡ states_of rs
unfolding states_of
found-all rs m low h = let same : m + (512 - m) ≡ 512 = omega arith in sym (found-stays rs m (512 - m) h) ∙ ap (found rs) same

-- a turn found too many
pub found-too-many : (rs : List Regex) (m : ℕ) → m < 512 → 512 < length (turn rs (found rs m) m) → too_many rs ≡ true
unfolding states_of too_many
found-too-many rs m low h =
    let same : m + 1 + (512 - (m + 1)) ≡ 512 = omega arith in
    lt-ltb 512 (length (found rs 512))
    (omega (arith, found-grows rs (m + 1) (512 - (m + 1)), ap (λ k. length (found rs k)) same, ap length (found-more rs m)))
