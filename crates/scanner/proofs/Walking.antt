-- One byte more of a walk, and where it ends.
use Rattle.std.proofs.Common.{◌≡◌, ℕ, ◌+◌, ◌<◌, ◌≤◌, Bool, true, false, cond, List, [], ◌∷◌, ◌++◌, map, length, get_or, take, drop, set, Some, None, Ok, Err, sym, refl, ap, ◌∙◌, subst, inl, inr, add-zero, zero-add, arith}
use Rattle.std.proofs.lemmas.List.{append-nil, take_more, length-take-le, take_more_set, take-append-drop, map_push, drop-set-lt, drop-drop, length_push, length-map, length-set}
use Rattle.std.proofs.lemmas.Bool.{ne_eqb, lt-ltb, le-ltb}
use Rattle.ternary.specs.declared.entry.Entry.{Entry}
use Rattle.ternary.specs.declared.refusal.Refusal.TheVariants.{NoEntry, PieceTooLong}
use Rattle.ternary.specs.declared.words.Mark.{Mark}
use Rattle.ternary.specs.declared.words.Progress.{Progress}
use Rattle.ternary.specs.declared.words.StateCode.{StateCode}
use Rattle.ternary.specs.Marks.{Marked, marked, held, mark}
use Rattle.ternary.specs.Match.{first}
use Rattle.scanner.specs.Traces.{trace}
use Rattle.scanner.specs.Walks.{longest, CanTake, searches_for, Tells, Walked, Unmatched, Outcome}
use Rattle.scanner.proofs.Tracing.{trace_push, trace_push_none, Over, most_from_over}

-- class 0 gives no mark, any other its place
mark_zero : (place class : ℕ) → class ≡ 0 → mark place class ≡ []
mark_zero place class z = ap (mark place) z

mark_some : (place class : ℕ) → (class ≡ 0 → ⊥) → mark place class ≡ (place, class) ∷ []
mark_some place class nz = ap (λ t. cond t [] ((place, class) ∷ [])) (ne_eqb class 0 nz)

module _ (es : List Entry) (from : StateCode) (piece : List ℕ) (i : ℕ) (code : StateCode) (ms : List Marked)
    (within : i < length piece) (so : trace es from 0 (take i piece) ≡ Some (code, ms)) where
  -- the trace of one byte more
  traced_more : (next : StateCode) (class : ℕ) → first es code.0 (get_or piece i 0) ≡ Some (next, class) → trace es from 0 (take (i + 1) piece) ≡ Some (next, ms ++ mark i class)
  traced_more next class hit =
      let at : 0 + length (take i piece) ≡ i = zero-add (length (take i piece)) ∙ length-take-le i piece (omega arith) in
      ap (trace es from 0) (take_more piece i 0 within)
      ∙ trace_push es from 0 (take i piece) code ms (get_or piece i 0) next class so hit
      ∙ ap (λ n. Some (next, ms ++ mark n class)) at

  traced_unmarked : (next : StateCode) (class : ℕ) → first es code.0 (get_or piece i 0) ≡ Some (next, class) → class ≡ 0 → trace es from 0 (take (i + 1) piece) ≡ Some (next, ms)
  traced_unmarked next class hit z =
      traced_more next class hit ∙ ap (λ (xs : List Marked). Some (next, ms ++ xs)) (mark_zero i class z) ∙ ap (λ (xs : List Marked). Some (next, xs)) (append-nil ms)

  traced_marked : (next : StateCode) (class : ℕ) → first es code.0 (get_or piece i 0) ≡ Some (next, class) → (class ≡ 0 → ⊥) → trace es from 0 (take (i + 1) piece) ≡ Some (next, ms ++ (i, class) ∷ [])
  traced_marked next class hit nz =
      traced_more next class hit ∙ ap (λ (xs : List Marked). Some (next, ms ++ xs)) (mark_some i class nz)

  -- no more bytes can be taken where the next has no entry
  most-unmatched : (slots : ℕ) → first es code.0 (get_or piece i 0) ≡ None → (m : ℕ) (c : StateCode) (ks : List Marked) → CanTake es from piece slots m c ks → m ≤ i
  most-unmatched slots miss =
      let none : trace es from 0 (take (i + 1) piece) ≡ None = ap (trace es from 0) (take_more piece i 0 within) ∙ trace_push_none es from 0 (take i piece) code ms (get_or piece i 0) so miss in
      most_from_over es from slots piece i (subst (Over slots) (sym none) tt)

  -- nor where its mark has no slot
  most_full : (slots : ℕ) (next : StateCode) (class : ℕ) → first es code.0 (get_or piece i 0) ≡ Some (next, class) → (class ≡ 0 → ⊥) → slots ≤ length ms
      → (m : ℕ) (c : StateCode) (ks : List Marked) → CanTake es from piece slots m c ks → m ≤ i
  most_full slots next class hit nz full =
      let over : slots < length (ms ++ (i, class) ∷ []) = simp length_push (omega arith) in
      most_from_over es from slots piece i (subst (Over slots) (sym (traced_marked next class hit nz)) over)

-- the marks after one more is written
written_more : (buffer : List Mark) (w : ℕ) (m : Mark) → w < length buffer → map marked (take (w + 1) (set buffer w m)) ≡ map marked (take w buffer) ++ marked m ∷ []
written_more buffer w m h = ap (map marked) (take_more_set buffer w m h) ∙ map_push marked (take w buffer) m

-- what lies beyond the marks is unchanged
beyond_more : (now before : List Mark) (w : ℕ) (m : Mark) → drop w now ≡ drop w before → drop (w + 1) (set now w m) ≡ drop (w + 1) before
beyond_more now before w m same =
    drop-set-lt (w + 1) now w m (omega arith) ∙ sym (drop-drop 1 w now) ∙ ap (drop 1) same ∙ drop-drop 1 w before

-- a buffer holds its marks as they are
held-marked : (xs : List Mark) → map held (map marked xs) ≡ xs
held-marked [] = refl
held-marked (x ∷ xs) = ap (λ (l : List Mark). x ∷ l) (held-marked xs)

-- the piece is too long
pub too_long_here : (es : List Entry) (from : StateCode) (piece : List ℕ) (buffer : List Mark) → longest < length piece → Outcome es from piece buffer buffer (Err PieceTooLong)
too_long_here es from piece buffer long = inl ((refl, refl), long, refl)

-- what the loop keeps: the bytes so far lead to the code, the marks written are theirs, and the buffer beyond is as it was
abbrev pub Here : List Entry → StateCode → List ℕ → List Mark → List Mark → ℕ → ℕ → StateCode → Type 0
Here es from piece buffer after i w code =
    (trace es from 0 (take i piece) ≡ Some (code, map marked (take w after))) × (w ≤ length after) × (drop w after ≡ drop w buffer)

module _ (es : List Entry) (from : StateCode) (piece : List ℕ) (buffer after : List Mark) (i w : ℕ) (code : StateCode) (here : Here es from piece buffer after i w code) where
  -- one byte more that has an entry and gives no mark
  pub here_unmarked : (next : StateCode) (class : ℕ) → i < length piece → Some (next, class) ≡ first es code.0 (get_or piece i 0) → class ≡ 0 → Here es from piece buffer after (i + 1) w next
  here_unmarked next class within hit z = (traced_unmarked es from piece i code (map marked (take w after)) within here.0 next class (sym hit) z, here.1, here.2)

  -- one byte more that gives a mark
  pub here_marked : (next : StateCode) (class : ℕ) → i < length piece → Some (next, class) ≡ first es code.0 (get_or piece i 0) → (class ≡ 0 → ⊥) → w < length after
      → Here es from piece buffer (set after w (record { place = i; class = class })) (i + 1) (w + 1) next
  here_marked next class within hit nz fits =
      let m : Mark = record { place = i; class = class } in (
        traced_marked es from piece i code (map marked (take w after)) within here.0 next class (sym hit) nz ∙ ap (λ (xs : List Marked). Some (next, xs)) (sym (written_more after w m fits)),
        simp length-set (omega arith),
        beyond_more after buffer w m here.2,
      )

  module _ (kept : length after ≡ length buffer) (short : length piece ≤ longest) where
    count : length (map marked (take w after)) ≡ w
    count = length-map (take w after) marked ∙ length-take-le w after here.1

    in_front : after ≡ map held (map marked (take w after)) ++ drop (length (map marked (take w after))) buffer
    in_front =
        sym (take-append-drop w after)
        ∙ ap (λ (l : List Mark). l ++ drop w after) (sym (held-marked (take w after)))
        ∙ ap (λ (l : List Mark). map held (map marked (take w after)) ++ l) (here.2 ∙ ap (λ n. drop n buffer) (sym count))

    -- what is told of the bytes so far, where no more can be taken
    tells : (full : Bool) (searches : ℕ) → i ≤ length piece → ((m : ℕ) (c : StateCode) (ks : List Marked) → CanTake es from piece (length buffer) m c ks → m ≤ i) → searches ≡ searches_for i (length piece)
        → Tells es from piece buffer after (record { taken = i; marks = w; code = code; marks_full = full; searches = searches })
    tells full searches within most searched = record {
      ms = map marked (take w after);
      takes = record {
        can = record { within = within; traced = here.0; fits = omega (arith, count, here.1) };
        most = most;
      };
      count = sym count;
      written = in_front;
      searched = searched;
    }

    one_more : i < length piece → i + 1 ≡ searches_for i (length piece)
    one_more within = ap (λ t. i + cond t 1 0) (sym (lt-ltb i (length piece) within))

    -- the walk meets a byte with no entry
    pub unmatched_here : (p : Progress) → p ≡ record { taken = i; marks = w; code = code; marks_full = false; searches = i + 1 }
        → i < length piece → None ≡ first es code.0 (get_or piece i 0) → Outcome es from piece buffer after (Err (NoEntry p))
    unmatched_here p is within miss =
        inr (
          p,
          (refl, refl),
          subst (Unmatched es from piece buffer after) (sym is) (record {
            short = short;
            tells = tells false (i + 1) (omega arith) (most-unmatched es from piece i code (map marked (take w after)) within here.0 (length buffer) (sym miss)) (one_more within);
            entry = (within, sym miss);
            full = refl;
          }),
        )

    -- the next mark has no slot
    pub full_here : (p : Progress) → p ≡ record { taken = i; marks = w; code = code; marks_full = true; searches = i + 1 }
        → (next : StateCode) (class : ℕ) → i < length piece → Some (next, class) ≡ first es code.0 (get_or piece i 0) → (class ≡ 0 → ⊥) → length after ≤ w → Outcome es from piece buffer after (Ok p)
    full_here p is next class within hit nz full =
        subst (Walked es from piece buffer after) (sym is) (record {
          short = short;
          tells = tells true (i + 1) (omega arith) (most_full es from piece i code (map marked (take w after)) within here.0 (length buffer) next class (sym hit) nz (omega (arith, count))) (one_more within);
          entry = λ lacks. let miss = lacks.1 in let z : ◌≡◌ {A = ℕ} 0 1 = cc in omega arith;
          full = sym (lt-ltb i (length piece) within);
        })

    -- the piece is at its end
    pub all_here : (p : Progress) → p ≡ record { taken = i; marks = w; code = code; marks_full = false; searches = i } → i ≡ length piece → Outcome es from piece buffer after (Ok p)
    all_here p is end =
        let none = le-ltb i (length piece) (omega arith) in
        subst (Walked es from piece buffer after) (sym is) (record {
          short = short;
          tells = tells false i (omega arith) (λ m c ks can. omega (arith, can.within)) (sym (add-zero i) ∙ ap (λ t. i + cond t 1 0) (sym none));
          entry = λ lacks. omega (arith, lacks.0);
          full = sym none;
        })
