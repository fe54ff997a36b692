-- Two lists that carry an automaton by the same codes: the walk over both is the walk of one byte a search.
use Rattle.std.proofs.Common.{◌≡◌, ℕ, zero, suc, ◌+◌, ◌-◌, ◌*◌, ◌<◌, ◌≤◌, Bool, true, false, cond, ◌||◌, eqb, ltb, List, [], ◌∷◌, ◌++◌, map, length, get_or, take, drop, Some, None, Ok, Err, Option, Result, sym, refl, ap, ◌∙◌, subst, inl, inr, ◌⊎◌, ⊎_elim, arith, length-append, one-add}
use Rattle.std.proofs.ByRecursion.{All-take}
use Rattle.std.proofs.lemmas.Bool.{ne_eqb, eqb-true, lt-ltb, le-ltb, ltb-true, true≢false, false≢true, cases_eq, cases_lt}
use Rattle.ternary.specs.declared.entry.Entry.{Entry}
use Rattle.ternary.specs.declared.refusal.Refusal.{Refusal}
use Rattle.ternary.specs.declared.refusal.Refusal.TheVariants.{PieceTooLong}
use Rattle.ternary.specs.declared.words.Mark.{Mark}
use Rattle.ternary.specs.declared.words.Progress.{Progress}
use Rattle.ternary.specs.declared.words.StateCode.{StateCode}
use Rattle.ternary.specs.Marks.{Marked, mark, held}
use Rattle.ternary.specs.Match as one
use Rattle.automaton.specs.Runs.{Dfa, reach, marks}
use Rattle.table.specs.Acceptance as table
use Rattle.pairs.specs.declared.stride.Stride.{Stride}
use Rattle.pairs.specs.declared.stride.Stride.TheVariants.{One, Two}
use Rattle.pairs.specs.declared.pair.PairEntry.{PairEntry}
use Rattle.pairs.specs.Match.{Decision, first}
use Rattle.pairs.specs.Carries as pairs
use Rattle.pairs.specs.Carries.{RightStep, reached, PassesNoMark}
use Rattle.scanner.specs.Traces.{Traced, trace}
use Rattle.scanner.specs.Walks.{longest, CanTake, Tells, Walked}
use Rattle.scanner.specs.Scanners.{Closed}
use Rattle.scanner.proofs.Simulation.{Bytes, simulates, has-entry}
use Rattle.pair_walk.specs.Ways.{Why, ended, full, lacking, Ending, stopped, after, fits, slots_after, by_stride, last, alone, going, onward, walked}
use Rattle.pair_walk.specs.Walks.{is_full, progress, told, with_marks, over, answer, leaves, one_byte, Searched, AsOneByte, Serves}

-- ---- marks and slots

no_mark : (place class : ℕ) → class ≡ 0 → mark place class ≡ []
no_mark place class z = ap (mark place) z

a_mark : (place class : ℕ) → (class ≡ 0 → ⊥) → mark place class ≡ (place, class) ∷ []
a_mark place class nz = ap (λ t. cond t [] ((place, class) ∷ [])) (ne_eqb class 0 nz)

-- a mark that fits takes no more slots than are left
pub fitting : (slots place class : ℕ) → fits slots class ≡ true → length (mark place class) ≤ slots
fitting slots place class ok = ⊎_elim
    (λ (z : class ≡ 0). let l : length (mark place class) ≡ 0 = ap length (no_mark place class z) in omega arith)
    (λ (nz : class ≡ 0 → ⊥).
    let l : length (mark place class) ≡ 1 = ap length (a_mark place class nz) in
    let some : ltb 0 slots ≡ true = ap (λ t. t || ltb 0 slots) (sym (ne_eqb class 0 nz)) ∙ ok in
    let h : 0 < slots = ltb-true 0 slots some in
    omega arith)
    (cases_eq class 0)

-- one that does not fit is a mark, and no slot is left
unfitting : (slots class : ℕ) → fits slots class ≡ false → (class ≡ 0 → ⊥) × (slots ≡ 0)
unfitting slots class not = ⊎_elim
    (λ (z : class ≡ 0). absurd (true≢false (sym (ap (λ (k : ℕ). eqb k 0 || ltb 0 slots) z) ∙ not)))
    (λ (nz : class ≡ 0 → ⊥).
    let none : ltb 0 slots ≡ false = ap (λ t. t || ltb 0 slots) (sym (ne_eqb class 0 nz)) ∙ not in
    (nz, ⊎_elim (λ (h : 0 < slots). absurd (true≢false (sym (lt-ltb 0 slots h) ∙ none))) (λ (h : slots ≤ 0). omega arith) (cases_lt 0 slots)))
    (cases_eq class 0)

-- ---- how a walk from a state ends

-- why: at the end of the bytes, or before a mark that has no slot
abbrev pub Ends : Dfa → ℕ → ℕ → ℕ → List ℕ → ℕ → Why → Type 0
Ends a slots place s bs taken ended = taken ≡ length bs
Ends a slots place s bs taken full = (taken < length bs) × (slots < length (marks a s place (take (taken + 1) bs)))
Ends a slots place s bs taken lacking = ⊥

-- one search more where marks stop it
abbrev pub one_more : Why → ℕ
one_more ended = 0
one_more full = 1
one_more lacking = 0

pub record Good (a : Dfa) (code : ℕ → StateCode) (slots place s : ℕ) (bs : List ℕ) (e : Ending) : Type 0 where
  pub within : e.taken ≤ length bs
  pub code_is : e.code ≡ code (reach a s (take e.taken bs))
  pub ms_is : e.ms ≡ marks a s place (take e.taken bs)
  pub fit : length e.ms ≤ slots
  pub ends : Ends a slots place s bs e.taken e.why
  pub few : e.searches ≤ e.taken + one_more e.why
  pub half : e.taken ≤ 2 * e.searches

module _ (a : Dfa) (code : ℕ → StateCode) (slots place s b : ℕ) where
  -- one byte in front
  ends_after_one : (bs : List ℕ) (n : ℕ) (why : Why) (m : List Marked) → m ≡ mark place (a.class (a.next s b)) → length m ≤ slots
      → Ends a (slots_after slots m) (place + 1) (a.next s b) bs n why → Ends a slots place s (b ∷ bs) (1 + n) why
  ends_after_one bs n ended m is room e = omega (arith, e)
  ends_after_one bs n full m is room e =
      let on : 1 + n + 1 ≡ suc (n + 1) = omega arith in
      let count : length (marks a s place (take (1 + n + 1) (b ∷ bs))) ≡ length m + length (marks a (a.next s b) (place + 1) (take (n + 1) bs)) =
      ap (λ k. length (marks a s place (take k (b ∷ bs)))) on
      ∙ length-append (mark place (a.class (a.next s b))) (marks a (a.next s b) (place + 1) (take (n + 1) bs))
      ∙ ap (λ (l : List Marked). length l + length (marks a (a.next s b) (place + 1) (take (n + 1) bs))) (sym is) in
      (omega (arith, e.0), omega (arith, count, e.1, room))
  ends_after_one bs n lacking m is room e = e

  pub after_one : (bs : List ℕ) (m : List Marked) (e : Ending) → m ≡ mark place (a.class (a.next s b)) → length m ≤ slots
      → Good a code (slots_after slots m) (place + 1) (a.next s b) bs e → Good a code slots place s (b ∷ bs) (after 1 m 1 e)
  after_one bs m e is room g =
      let on : 1 + e.taken ≡ suc e.taken = one-add e.taken in
      let front : take (1 + e.taken) (b ∷ bs) ≡ b ∷ take e.taken bs = ap (λ k. take k (b ∷ bs)) on in
      record {
        within = omega (arith, g.within);
        code_is = g.code_is ∙ ap (λ l. code (reach a s l)) (sym front);
        ms_is = ap (λ (l : List Marked). l ++ e.ms) is ∙ ap (λ (l : List Marked). mark place (a.class (a.next s b)) ++ l) g.ms_is ∙ ap (marks a s place) (sym front);
        fit = let l = length-append m e.ms in omega (arith, l, g.fit, room);
        ends = ends_after_one bs e.taken e.why m is room g.ends;
        few = omega (arith, g.few);
        half = omega (arith, g.half);
      }

  -- two bytes in front, of which the first has no mark
  module _ (c : ℕ) (quiet : a.class (a.next s b) ≡ 0) where
    u : ℕ
    u = a.next (a.next s b) c

    marks_two : (bs : List ℕ) → marks a s place (b ∷ c ∷ bs) ≡ mark (place + 1) (a.class (a.next (a.next s b) c)) ++ marks a (a.next (a.next s b) c) (place + 2) bs
    marks_two bs =
        let at : place + 1 + 1 ≡ place + 2 = omega arith in
        ap (λ (l : List Marked). l ++ (mark (place + 1) (a.class (a.next (a.next s b) c)) ++ marks a (a.next (a.next s b) c) (place + 1 + 1) bs)) (no_mark place (a.class (a.next s b)) quiet)
        ∙ ap (λ k. mark (place + 1) (a.class (a.next (a.next s b) c)) ++ marks a (a.next (a.next s b) c) k bs) at

    ends_after_two : (bs : List ℕ) (n : ℕ) (why : Why) (m : List Marked) → m ≡ mark (place + 1) (a.class (a.next (a.next s b) c)) → length m ≤ slots
        → Ends a (slots_after slots m) (place + 2) (a.next (a.next s b) c) bs n why → Ends a slots place s (b ∷ c ∷ bs) (2 + n) why
    ends_after_two bs n ended m is room e = omega (arith, e)
    ends_after_two bs n full m is room e =
        let on : 2 + n + 1 ≡ suc (suc (n + 1)) = omega arith in
        let count : length (marks a s place (take (2 + n + 1) (b ∷ c ∷ bs))) ≡ length m + length (marks a (a.next (a.next s b) c) (place + 2) (take (n + 1) bs)) =
        ap (λ k. length (marks a s place (take k (b ∷ c ∷ bs)))) on
        ∙ ap length (marks_two (take (n + 1) bs))
        ∙ length-append (mark (place + 1) (a.class (a.next (a.next s b) c))) (marks a (a.next (a.next s b) c) (place + 2) (take (n + 1) bs))
        ∙ ap (λ (l : List Marked). length l + length (marks a (a.next (a.next s b) c) (place + 2) (take (n + 1) bs))) (sym is) in
        (omega (arith, e.0), omega (arith, count, e.1, room))
    ends_after_two bs n lacking m is room e = e

    pub after_two : (bs : List ℕ) (m : List Marked) (e : Ending) → m ≡ mark (place + 1) (a.class (a.next (a.next s b) c)) → length m ≤ slots
        → Good a code (slots_after slots m) (place + 2) (a.next (a.next s b) c) bs e → Good a code slots place s (b ∷ c ∷ bs) (after 2 m 1 e)
    after_two bs m e is room g =
        let on : 2 + e.taken ≡ suc (suc e.taken) = omega arith in
        let front : take (2 + e.taken) (b ∷ c ∷ bs) ≡ b ∷ c ∷ take e.taken bs = ap (λ k. take k (b ∷ c ∷ bs)) on in
        record {
          within = omega (arith, g.within);
          code_is = g.code_is ∙ ap (λ l. code (reach a s l)) (sym front);
          ms_is = ap (λ (l : List Marked). l ++ e.ms) is ∙ ap (λ (l : List Marked). mark (place + 1) (a.class (a.next (a.next s b) c)) ++ l) g.ms_is
              ∙ sym (marks_two (take e.taken bs)) ∙ ap (marks a s place) (sym front);
          fit = let l = length-append m e.ms in omega (arith, l, g.fit, room);
          ends = ends_after_two bs e.taken e.why m is room g.ends;
          few = omega (arith, g.few);
          half = omega (arith, g.half);
        }

    -- the second byte's mark has no slot: the first is taken alone
    pub first_alone : (bs : List ℕ) → (a.class (a.next (a.next s b) c) ≡ 0 → ⊥) → slots ≡ 0 → Good a code slots place s (b ∷ c ∷ bs) (after 1 [] 2 (stopped (code (a.next s b)) 0 full))
    first_alone bs nz none =
        let many : length (marks a s place (b ∷ c ∷ [])) ≡ 1 =
        ap length (marks_two [])
        ∙ ap (λ (l : List Marked). length (l ++ [])) (a_mark (place + 1) (a.class (a.next (a.next s b) c)) nz) in
        record {
          within = omega arith;
          code_is = refl;
          ms_is = sym (ap (λ (l : List Marked). l ++ []) (no_mark place (a.class (a.next s b)) quiet));
          fit = omega arith;
          ends = (omega arith, omega (arith, many));
          few = omega arith;
          half = omega arith;
        }

  -- the walk stops before a byte whose mark has no slot
  pub stops_before : (bs : List ℕ) → (a.class (a.next s b) ≡ 0 → ⊥) → slots ≡ 0 → Good a code slots place s (b ∷ bs) (stopped (code s) 1 full)
  stops_before bs nz none =
      let many : length (marks a s place (b ∷ [])) ≡ 1 = ap (λ (l : List Marked). length (l ++ [])) (a_mark place (a.class (a.next s b)) nz) in
      record {
        within = omega arith;
        code_is = refl;
        ms_is = refl;
        fit = omega arith;
        ends = (omega arith, omega (arith, many));
        few = omega arith;
        half = omega arith;
      }

-- nothing is left
pub nothing_left : (a : Dfa) (code : ℕ → StateCode) (slots place s : ℕ) → Good a code slots place s [] (stopped (code s) 0 ended)
nothing_left a code slots place s = record { within = omega arith; code_is = refl; ms_is = refl; fit = omega arith; ends = refl; few = omega arith; half = omega arith }

-- ---- the walk of lists that carry an automaton

module _ (a : Dfa) (code : ℕ → StateCode) (es : List Entry) (ds : List PairEntry) (closed : Closed a) (single : table.Carries a code es) (double : pairs.Carries a code ds) where
  -- the last byte
  last_good : (slots place s b : ℕ) → (x : Bool) → fits slots (a.class (a.next s b)) ≡ x
      → Good a code slots place s (b ∷ []) (cond x (after 1 (mark place (a.class (a.next s b))) 1 (stopped (code (a.next s b)) 0 ended)) (stopped (code s) 1 full))
  last_good slots place s b true ok =
      after_one a code slots place s b [] (mark place (a.class (a.next s b))) (stopped (code (a.next s b)) 0 ended) refl (fitting slots place (a.class (a.next s b)) ok)
      (nothing_left a code (slots_after slots (mark place (a.class (a.next s b)))) (place + 1) (a.next s b))
  last_good slots place s b false not =
      let u = unfitting slots (a.class (a.next s b)) not in
      stops_before a code slots place s b [] u.0 u.1

  -- the first byte of two alone
  alone_good : (slots place s b c : ℕ) (bs : List ℕ) → b < 256 → s < a.states → a.class (a.next s b) ≡ 0 → (a.class (a.next (a.next s b) c) ≡ 0 → ⊥) → slots ≡ 0
      → Good a code slots place s (b ∷ c ∷ bs) (alone (code s) (one.first es (code s).0 b))
  alone_good slots place s b c bs hb hs quiet nz none =
      let hit : alone (code s) (one.first es (code s).0 b) ≡ after 1 [] 2 (stopped (code (a.next s b)) 0 full) =
      ap (alone (code s)) (single s hs b hb)
      ∙ ap (λ (k : ℕ). cond (eqb k 0) (after 1 [] 2 (stopped (code (a.next s b)) 0 full)) (stopped (code s) 2 full)) quiet in
      subst (Good a code slots place s (b ∷ c ∷ bs)) (sym hit) (first_alone a code slots place s b c quiet bs nz none)

  -- what follows a byte, and what follows two
  abbrev one_on : ℕ → ℕ → List ℕ → StateCode → ℕ → Ending
  one_on place c bs next left = walked es ds left (place + 1) next (c ∷ bs)

  abbrev two_on : ℕ → List ℕ → StateCode → ℕ → Ending
  two_on place bs next left = walked es ds left (place + 2) next bs

  module _ (slots place s b c : ℕ) (bs : List ℕ) (hs : s < a.states) (hb : b < 256)
      (one_rest : (left : ℕ) → Good a code left (place + 1) (a.next s b) (c ∷ bs) (one_on place c bs (code (a.next s b)) left))
      (two_rest : (left : ℕ) → Good a code left (place + 2) (a.next (a.next s b) c) bs (two_on place bs (code (a.next (a.next s b) c)) left)) where
    -- a decision that takes one byte
    one_good : (x : Bool) → fits slots (a.class (a.next s b)) ≡ x
        → Good a code slots place s (b ∷ c ∷ bs)
        (cond x (after 1 (mark place (a.class (a.next s b))) 1 (one_on place c bs (code (a.next s b)) (slots_after slots (mark place (a.class (a.next s b)))))) (stopped (code s) 1 full))
    one_good true ok =
        after_one a code slots place s b (c ∷ bs) (mark place (a.class (a.next s b))) (one_on place c bs (code (a.next s b)) (slots_after slots (mark place (a.class (a.next s b))))) refl
        (fitting slots place (a.class (a.next s b)) ok) (one_rest (slots_after slots (mark place (a.class (a.next s b)))))
    one_good false not =
        let u = unfitting slots (a.class (a.next s b)) not in
        stops_before a code slots place s b (c ∷ bs) u.0 u.1

    -- a decision that takes two
    two_good : a.class (a.next s b) ≡ 0 → (x : Bool) → fits slots (a.class (a.next (a.next s b) c)) ≡ x
        → Good a code slots place s (b ∷ c ∷ bs)
        (cond x (after 2 (mark (place + 1) (a.class (a.next (a.next s b) c))) 1 (two_on place bs (code (a.next (a.next s b) c)) (slots_after slots (mark (place + 1) (a.class (a.next (a.next s b) c))))))
        (alone (code s) (one.first es (code s).0 b)))
    two_good quiet true ok =
        let m = mark (place + 1) (a.class (a.next (a.next s b) c)) in
        after_two a code slots place s b c quiet bs m (two_on place bs (code (a.next (a.next s b) c)) (slots_after slots m)) refl
        (fitting slots (place + 1) (a.class (a.next (a.next s b) c)) ok) (two_rest (slots_after slots m))
    two_good quiet false not =
        let u = unfitting slots (a.class (a.next (a.next s b) c)) not in
        alone_good slots place s b c bs hb hs quiet u.0 u.1

    decided : (d : Decision) → RightStep a code s b c (Some d)
        → Good a code slots place s (b ∷ c ∷ bs) (going slots place (code s) (one.first es (code s).0 b) (one_on place c bs) (two_on place bs) d)
    decided (next, class, One) right =
        let is : ◌≡◌ {A = Decision} (code (a.next s b), a.class (a.next s b), One) (next, class, One) = sym (λ i. (right.0 i, right.1 i, One)) in
        subst (λ (d : Decision). Good a code slots place s (b ∷ c ∷ bs) (going slots place (code s) (one.first es (code s).0 b) (one_on place c bs) (two_on place bs) d)) is
        (one_good (fits slots (a.class (a.next s b))) refl)
    decided (next, class, Two) right =
        let is : ◌≡◌ {A = Decision} (code (a.next (a.next s b) c), a.class (a.next (a.next s b) c), Two) (next, class, Two) = sym (λ i. (right.0 i, right.1 i, Two)) in
        subst (λ (d : Decision). Good a code slots place s (b ∷ c ∷ bs) (going slots place (code s) (one.first es (code s).0 b) (one_on place c bs) (two_on place bs) d)) is
        (two_good right.2 (fits slots (a.class (a.next (a.next s b) c))) refl)

    pub onward_good : (o : Option Decision) → RightStep a code s b c o
        → Good a code slots place s (b ∷ c ∷ bs) (onward slots place (code s) (one.first es (code s).0 b) (one_on place c bs) (two_on place bs) o)
    onward_good None right = absurd right
    onward_good (Some d) right = decided d right

  -- the walk from a state's code
  pub walk_good : (slots place s : ℕ) (bs : List ℕ) → s < a.states → Bytes bs → Good a code slots place s bs (walked es ds slots place (code s) bs)
  walk_good slots place s [] hs all = nothing_left a code slots place s
  walk_good slots place s (b ∷ []) hs all =
      subst (λ (o : Option one.Decision). Good a code slots place s (b ∷ []) (last slots place (code s) o)) (sym (single s hs b all.0))
      (last_good slots place s b (fits slots (a.class (a.next s b))) refl)
  walk_good slots place s (b ∷ c ∷ bs) hs all =
      let ht : a.next s b < a.states = closed.next_is s hs b all.0 in
      let hu : a.next (a.next s b) c < a.states = closed.next_is (a.next s b) ht c all.1.0 in
      onward_good slots place s b c bs hs all.0
      (λ left. walk_good left (place + 1) (a.next s b) (c ∷ bs) ht all.1)
      (λ left. walk_good left (place + 2) (a.next (a.next s b) c) bs hu all.1.1)
      (first ds (code s).0 b c) (double s hs b all.0 c all.1.0)

-- ---- as the walk of one byte a search

-- more bytes have at least as many marks
marks-more : (a : Dfa) (s place : ℕ) (bs : List ℕ) (n m : ℕ) → n ≤ m → length (marks a s place (take n bs)) ≤ length (marks a s place (take m bs))
marks-more a s place bs zero m h = omega arith
marks-more a s place [] (suc n) m h = elim m as (λ k. length (marks a s place (take (suc n) [])) ≤ length (marks a s place (take k []))) [ zero ↦ omega arith | suc k ↦ omega arith ]
marks-more a s place (b ∷ bs) (suc n) zero h = absurd (omega arith)
marks-more a s place (b ∷ bs) (suc n) (suc m) h =
    let more = marks-more a (a.next s b) (place + 1) bs n m (omega arith) in
    let l = length-append (mark place (a.class (a.next s b))) (marks a (a.next s b) (place + 1) (take n bs)) in
    let r = length-append (mark place (a.class (a.next s b))) (marks a (a.next s b) (place + 1) (take m bs)) in
    omega (arith, l, r, more)

-- no more bytes can be taken
most : (a : Dfa) (s slots : ℕ) (bs : List ℕ) (taken : ℕ) (why : Why) → Ends a slots 0 s bs taken why → (m : ℕ) → m ≤ length bs → length (marks a s 0 (take m bs)) ≤ slots → m ≤ taken
most a s slots bs taken ended e m within fit = omega (arith, e)
most a s slots bs taken full e m within fit =
    ⊎_elim
    (λ (h : taken < m). absurd (let more = marks-more a s 0 bs (taken + 1) m (omega arith) in omega (arith, more, e.1)))
    (λ (h : m ≤ taken). h)
    (cases_lt taken m)
most a s slots bs taken lacking e m within fit = absurd e

full_is : (a : Dfa) (s slots : ℕ) (bs : List ℕ) (taken : ℕ) (why : Why) → Ends a slots 0 s bs taken why → is_full why ≡ ltb taken (length bs)
full_is a s slots bs taken ended e = sym (le-ltb taken (length bs) (omega (arith, e)))
full_is a s slots bs taken full e = sym (lt-ltb taken (length bs) e.0)
full_is a s slots bs taken lacking e = absurd e

searched : (a : Dfa) (code : ℕ → StateCode) (slots s : ℕ) (bs : List ℕ) (taken searches : ℕ) (why : Why) → Ends a slots 0 s bs taken why → searches ≤ taken + one_more why → taken ≤ 2 * searches
    → (searches ≤ taken + 1) × (is_full why ≡ false → (searches ≤ length bs) × (length bs ≤ 2 * searches))
searched a code slots s bs taken searches ended e few half = (omega (arith, few), λ _. (omega (arith, few, e), omega (arith, half, e)))
searched a code slots s bs taken searches full e few half = (omega (arith, few), λ t. absurd (true≢false t))
searched a code slots s bs taken searches lacking e few half = absurd e

module _ (a : Dfa) (code : ℕ → StateCode) (es : List Entry) (ds : List PairEntry) (closed : Closed a) (single : table.Carries a code es) (double : pairs.Carries a code ds)
    (s : ℕ) (hs : s < a.states) (piece : List ℕ) (all : Bytes piece) (buffer : List Mark) where
  abbrev ending : Ending
  ending = over es ds (code s) piece (length buffer)

  good : Good a code (length buffer) 0 s piece ending
  good = walk_good a code es ds closed single double (length buffer) 0 s piece hs all

  front : (m : ℕ) → trace es (code s) 0 (take m piece) ≡ Some (code (reach a s (take m piece)), marks a s 0 (take m piece))
  front m = simulates a code es closed single s 0 (take m piece) hs (All-take (λ b. b < 256) m piece all)

  most_of : (m : ℕ) (c : StateCode) (ks : List Marked) → CanTake es (code s) piece (length buffer) m c ks → m ≤ ending.taken
  most_of m c ks can =
      let both : ◌≡◌ {A = Traced} (c, ks) (code (reach a s (take m piece)), marks a s 0 (take m piece)) = let w = can.traced in let f = front m in cc in
      most a s (length buffer) piece ending.taken ending.why good.ends m can.within
      (subst (λ (l : List Marked). length l ≤ length buffer) (ap (λ (t : Traced). t.1) both) can.fits)

  tells : Tells es (code s) piece buffer (with_marks ending.ms buffer) (one_byte (length piece) (progress ending))
  tells = record {
    ms = ending.ms;
    takes = record {
      can = record {
        within = good.within;
        traced = front ending.taken ∙ (λ i. Some (sym good.code_is i, sym good.ms_is i));
        fits = good.fit;
      };
      most = most_of;
    };
    count = refl;
    written = refl;
    searched = refl;
  }

  -- the walk over both lists is the walk of one byte a search
  pub as_one_byte : length piece ≤ longest → Walked es (code s) piece buffer (with_marks ending.ms buffer) (one_byte (length piece) (progress ending)) × Searched (length piece) (progress ending)
  as_one_byte short =
      let t = searched a code (length buffer) s piece ending.taken ending.searches ending.why good.ends good.few good.half in (
        record {
          short = short;
          tells = tells;
          entry = has-entry a code es closed single s hs piece all buffer (with_marks ending.ms buffer) (one_byte (length piece) (progress ending)) tells;
          full = full_is a s (length buffer) piece ending.taken ending.why good.ends;
        },
        record { half = good.half; few = t.0; whole = t.1 },
      )

  -- it never finds nothing
  pub never_lacking : ending.why ≡ lacking → ⊥
  never_lacking is = subst (Ends a (length buffer) 0 s piece ending.taken) is good.ends

  -- so it is answered
  told_well : (why : Why) → (why ≡ lacking → ⊥) → (p : Progress) → told why p ≡ Ok p
  told_well ended not p = refl
  told_well full not p = refl
  told_well lacking not p = absurd (not refl)

  pub answered : AsOneByte es (code s) piece buffer (leaves es ds (code s) piece buffer) (answer es ds (code s) piece (length buffer))
  answered = ⊎_elim
      (λ (long : longest < length piece).
      let yes : ltb longest (length piece) ≡ true = lt-ltb longest (length piece) long in
      let r : answer es ds (code s) piece (length buffer) ≡ Err PieceTooLong = ap (λ t. cond t (Err PieceTooLong) (told ending.why (progress ending))) yes in
      let b : leaves es ds (code s) piece buffer ≡ buffer = ap (λ t. cond t buffer (with_marks ending.ms buffer)) yes in
      subst (λ (x : Result Progress Refusal). AsOneByte es (code s) piece buffer (leaves es ds (code s) piece buffer) x) (sym r) (refl, long, b))
      (λ (short : length piece ≤ longest).
      let none : ltb longest (length piece) ≡ false = le-ltb longest (length piece) short in
      let r : answer es ds (code s) piece (length buffer) ≡ Ok (progress ending) =
      ap (λ t. cond t (Err PieceTooLong) (told ending.why (progress ending))) none ∙ told_well ending.why never_lacking (progress ending) in
      let b : leaves es ds (code s) piece buffer ≡ with_marks ending.ms buffer = ap (λ t. cond t buffer (with_marks ending.ms buffer)) none in
      subst (λ (x : Result Progress Refusal). AsOneByte es (code s) piece buffer (leaves es ds (code s) piece buffer) x) (sym r)
      (subst (λ (l : List Mark). Walked es (code s) piece buffer l (one_byte (length piece) (progress ending)) × Searched (length piece) (progress ending)) (sym b) (as_one_byte short)))
      (cases_lt longest (length piece))

-- from the code of a state
pub served : (es : List Entry) (ds : List PairEntry) (from : StateCode) (piece : List ℕ) (buffer : List Mark) → Bytes piece → Serves es ds from
    → AsOneByte es from piece buffer (leaves es ds from piece buffer) (answer es ds from piece (length buffer))
served es ds from piece buffer all v =
    subst (λ (c : StateCode). AsOneByte es c piece buffer (leaves es ds c piece buffer) (answer es ds c piece (length buffer))) (sym v.at)
    (answered v.a v.code es ds v.closed v.single v.double v.state v.is_state piece all buffer)
