-- Laws of the trace: over bytes in a row, one byte more, and where no more bytes can be taken.
use Rattle.std.proofs.Common.{◌≡◌, ℕ, suc, ◌+◌, ◌<◌, ◌≤◌, List, [], ◌∷◌, ◌++◌, length, take, drop, Some, None, Option, sym, refl, ap, ◌∙◌, subst, ⊎_elim, add-zero, arith}
use Rattle.std.proofs.lemmas.List.{append-nil, append_assoc, length-append, take-append-drop, take-take}
use Rattle.std.proofs.lemmas.Bool.{cases_lt}
use Rattle.ternary.specs.declared.entry.Entry.{Entry}
use Rattle.ternary.specs.declared.words.StateCode.{StateCode}
use Rattle.ternary.specs.Match.{first}
use Rattle.ternary.specs.Marks.{Marked, mark}
use Rattle.scanner.specs.Traces.{Traced, before, onward, trace}
use Rattle.scanner.specs.Walks.{CanTake}

-- a trace that goes on from where the first ended
abbrev pub and_then : Option Traced → (Traced → Option Traced) → Option Traced
and_then None f = None
and_then (Some t) f = before t.1 (f t)

before_none : (o : Option Traced) → before [] o ≡ o
before_none None = refl
before_none (Some t) = refl

before-before : (ms ns : List Marked) (o : Option Traced) → before ms (before ns o) ≡ before (ms ++ ns) o
before-before ms ns None = refl
before-before ms ns (Some t) = ap (λ (xs : List Marked). Some (t.0, xs)) (sym (append_assoc ms ns t.1))

before_and_then : (ms : List Marked) (o : Option Traced) (f : StateCode → Option Traced) → before ms (and_then o (λ t. f t.0)) ≡ and_then (before ms o) (λ t. f t.0)
before_and_then ms None f = refl
before_and_then ms (Some t) f = before-before ms t.1 (f t.0)

-- the trace of two lists in a row
pub trace-++ : (es : List Entry) (code : StateCode) (place : ℕ) (xs ys : List ℕ) → trace es code place (xs ++ ys) ≡ and_then (trace es code place xs) (λ t. trace es t.0 (place + length xs) ys)
trace-++ es code place [] ys = rw add-zero (sym (before_none (trace es code place ys)))
trace-++ es code place (x ∷ xs) ys =
    elim (first es code.0 x) as (λ d. onward place (λ next. trace es next (place + 1) (xs ++ ys)) d ≡ and_then (onward place (λ next. trace es next (place + 1) xs) d) (λ t. trace es t.0 (place + suc (length xs)) ys)) [
      | None ↦ refl
      | Some d ↦
          let at : place + 1 + length xs ≡ place + suc (length xs) = omega arith in
          ap (before (mark place d.1)) (trace-++ es d.0 (place + 1) xs ys)
          ∙ before_and_then (mark place d.1) (trace es d.0 (place + 1) xs) (λ c. trace es c (place + 1 + length xs) ys)
          ∙ ap (λ n. and_then (before (mark place d.1) (trace es d.0 (place + 1) xs)) (λ t. trace es t.0 n ys)) at
    ]

-- one more byte that has an entry
pub trace_push : (es : List Entry) (code : StateCode) (place : ℕ) (bs : List ℕ) (d : StateCode) (ms : List Marked) (b : ℕ) (e : StateCode) (k : ℕ)
    → trace es code place bs ≡ Some (d, ms) → first es d.0 b ≡ Some (e, k) → trace es code place (bs ++ b ∷ []) ≡ Some (e, ms ++ mark (place + length bs) k)
trace_push es code place bs d ms b e k so hit =
    trace-++ es code place bs (b ∷ [])
    ∙ ap (λ o. and_then o (λ t. trace es t.0 (place + length bs) (b ∷ []))) so
    ∙ ap (λ o. before ms (onward (place + length bs) (λ next. Some (next, [])) o)) hit
    ∙ ap (λ (xs : List Marked). Some (e, ms ++ xs)) (append-nil (mark (place + length bs) k))

-- one more byte that has none
pub trace_push_none : (es : List Entry) (code : StateCode) (place : ℕ) (bs : List ℕ) (d : StateCode) (ms : List Marked) (b : ℕ)
    → trace es code place bs ≡ Some (d, ms) → first es d.0 b ≡ None → trace es code place (bs ++ b ∷ []) ≡ None
trace_push_none es code place bs d ms b so miss =
    trace-++ es code place bs (b ∷ [])
    ∙ ap (λ o. and_then o (λ t. trace es t.0 (place + length bs) (b ∷ []))) so
    ∙ ap (λ o. before ms (onward (place + length bs) (λ next. Some (next, [])) o)) miss

-- a trace that no more bytes can bring back within the slots
abbrev pub Over : ℕ → Option Traced → Type 0
Over slots None = Unit {0}
Over slots (Some t) = slots < length t.1

over_before : (slots : ℕ) (ms : List Marked) (o : Option Traced) → slots < length ms → Over slots (before ms o)
over_before slots ms None h = tt
over_before slots ms (Some t) h = simp length-append (omega arith)

over_and_then : (slots : ℕ) (o : Option Traced) (f : Traced → Option Traced) → Over slots o → Over slots (and_then o f)
over_and_then slots None f h = tt
over_and_then slots (Some t) f h = over_before slots t.1 (f t) h

pub over_more : (es : List Entry) (code : StateCode) (place slots : ℕ) (xs ys : List ℕ) → Over slots (trace es code place xs) → Over slots (trace es code place (xs ++ ys))
over_more es code place slots xs ys h =
    subst (Over slots) (sym (trace-++ es code place xs ys)) (over_and_then slots (trace es code place xs) (λ t. trace es t.0 (place + length xs) ys) h)

-- the longer of two fronts begins with the shorter
pub front_more : {X : Type 0} (xs : List X) (n m : ℕ) → n ≤ m → take n xs ++ drop n (take m xs) ≡ take m xs
front_more xs n m h = ap (λ ys. ys ++ drop n (take m xs)) (sym (take-take n m xs h)) ∙ take-append-drop n (take m xs)

-- where one byte more is over the slots or has no entry, no more bytes are taken
pub most_from_over : (es : List Entry) (from : StateCode) (slots : ℕ) (piece : List ℕ) (n : ℕ) → Over slots (trace es from 0 (take (n + 1) piece))
    → (m : ℕ) (code : StateCode) (ms : List Marked) → CanTake es from piece slots m code ms → m ≤ n
most_from_over es from slots piece n over m code ms w =
    ⊎_elim
    (λ (h : n < m).
    let far : Over slots (trace es from 0 (take (n + 1) piece ++ drop (n + 1) (take m piece))) = over_more es from 0 slots (take (n + 1) piece) (drop (n + 1) (take m piece)) over in
    let whole : Over slots (trace es from 0 (take m piece)) = subst (λ xs. Over slots (trace es from 0 xs)) (front_more piece (n + 1) m (omega arith)) far in
    let past : slots < length ms = subst (Over slots) w.traced whole in
    absurd (omega (arith, w.fits)))
    (λ h. h)
    (cases_lt n m)
