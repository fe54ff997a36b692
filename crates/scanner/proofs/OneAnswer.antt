-- A walk has one answer, and leaves one buffer.
use Rattle.std.proofs.Common.{◌≡◌, ℕ, ◌<◌, Bool, ltb, List, ◌++◌, map, length, get_or, take, drop, Ok, Err, Result, sym, refl, ap, ◌∙◌, subst, inl, inr, arith}
use Rattle.ternary.specs.declared.entry.Entry.{Entry}
use Rattle.ternary.specs.declared.refusal.Refusal.{Refusal}
use Rattle.ternary.specs.declared.refusal.Refusal.TheVariants.{NoEntry, PieceTooLong}
use Rattle.ternary.specs.declared.words.Mark.{Mark}
use Rattle.ternary.specs.declared.words.Progress.{Progress}
use Rattle.ternary.specs.declared.words.StateCode.{StateCode}
use Rattle.ternary.specs.Marks.{Marked, held}
use Rattle.ternary.specs.Match.{first}
use Rattle.ternary.proofs.Telling.{known_one}
use Rattle.scanner.specs.Traces.{Traced, trace}
use Rattle.scanner.specs.Walks.{longest, searches_for, Tells, NextLacksEntry, Walked, Unmatched, Outcome, Only}

-- answers with equal parts are equal
make : ℕ → ℕ → StateCode → Bool → ℕ → Progress
make taken marks code full searches = record { taken = taken; marks = marks; code = code; marks_full = full; searches = searches }

same_progress : (p q : Progress) → p.taken ≡ q.taken → p.marks ≡ q.marks → p.code ≡ q.code → p.marks_full ≡ q.marks_full → p.searches ≡ q.searches → p ≡ q
unfolding make
same_progress p q taken marks code full searches =
    ap (λ n. make n p.marks p.code p.marks_full p.searches) taken
    ∙ ap (λ n. make q.taken n p.code p.marks_full p.searches) marks
    ∙ ap (λ c. make q.taken q.marks c p.marks_full p.searches) code
    ∙ ap (λ b. make q.taken q.marks q.code b p.searches) full
    ∙ ap (λ n. make q.taken q.marks q.code q.marks_full n) searches

module _ (es : List Entry) (from : StateCode) (piece : List ℕ) (buffer : List Mark) where
  module _ (after later : List Mark) (p q : Progress) (x : Tells es from piece buffer after p) (y : Tells es from piece buffer later q) where
    -- there is one largest count
    same_count : p.taken ≡ q.taken
    same_count = omega (arith, x.takes.most q.taken q.code y.ms y.takes.can, y.takes.most p.taken p.code x.ms x.takes.can)

    -- these bytes reach one code, and give one list of marks
    same-trace : ◌≡◌ {A = Traced} (p.code, x.ms) (q.code, y.ms)
    same-trace = let e = ap (λ n. trace es from 0 (take n piece)) same_count in cc

    same_code : p.code ≡ q.code
    same_code = ap (λ (t : Traced). t.0) same-trace

    same-marks : x.ms ≡ y.ms
    same-marks = ap (λ (t : Traced). t.1) same-trace

    same_answer : p.marks_full ≡ q.marks_full → p ≡ q
    same_answer full =
        same_progress p q same_count (x.count ∙ ap length same-marks ∙ sym y.count) same_code full
        (x.searched ∙ ap (λ n. searches_for n (length piece)) same_count ∙ sym y.searched)

    same_buffer : after ≡ later
    same_buffer = x.written ∙ ap (λ (ms : List Marked). map held ms ++ drop (length ms) buffer) same-marks ∙ sym y.written

    same_lack : NextLacksEntry es piece p → NextLacksEntry es piece q
    same_lack lack = (
      omega (arith, same_count, lack.0),
      ap (λ (c : StateCode). first es c.0 (get_or piece q.taken 0)) (sym same_code) ∙ ap (λ n. first es p.code.0 (get_or piece n 0)) (sym same_count) ∙ lack.1,
    )

  -- the three ways in which a walk ends
  pub data Ends : List Mark → Result Progress Refusal → Type 0 where
    well : {after : List Mark} {p : Progress} → Walked es from piece buffer after p → Ends after (Ok p)
    unmatched : {after : List Mark} {p : Progress} → Unmatched es from piece buffer after p → Ends after (Err (NoEntry p))
    too_long : {after : List Mark} → longest < length piece → after ≡ buffer → Ends after (Err PieceTooLong)

  pub ends : (after : List Mark) (r : Result Progress Refusal) → Outcome es from piece buffer after r → Ends after r
  ends after (Ok p) x = well x
  ends after (Err why) (inl x) = subst (λ (w : Refusal). Ends after (Err w)) (sym (known_one why PieceTooLong x.0)) (too_long x.1 x.2)
  ends after (Err why) (inr x) = subst (λ (w : Refusal). Ends after (Err w)) (sym (known_one why (NoEntry x.0) x.1)) (unmatched x.2)

  one_end : {after later : List Mark} {r other : Result Progress Refusal} → Ends after r → Ends later other → (other ≡ r) × (later ≡ after)
  one_end {after} {later} (well {p = p} x) (well {p = q} y) = (
    ap Ok (same_answer later after q p y.tells x.tells (y.full ∙ ap (λ n. ltb n (length piece)) (same_count later after q p y.tells x.tells) ∙ sym x.full)),
    same_buffer later after q p y.tells x.tells,
  )
  one_end {after} {later} (well {p = p} x) (unmatched {p = q} y) = absurd (x.entry (same_lack later after q p y.tells x.tells y.entry))
  one_end (well x) (too_long long same) = absurd (omega (arith, x.short))
  one_end {after} {later} (unmatched {p = p} x) (well {p = q} y) = absurd (y.entry (same_lack after later p q x.tells y.tells x.entry))
  one_end {after} {later} (unmatched {p = p} x) (unmatched {p = q} y) = (
    ap (λ (p : Progress). Err (NoEntry p)) (same_answer later after q p y.tells x.tells (y.full ∙ sym x.full)),
    same_buffer later after q p y.tells x.tells,
  )
  one_end (unmatched x) (too_long long same) = absurd (omega (arith, x.short))
  one_end (too_long long same) (well y) = absurd (omega (arith, y.short))
  one_end (too_long long same) (unmatched y) = absurd (omega (arith, y.short))
  one_end (too_long long same) (too_long again also) = (refl, also ∙ sym same)

  -- what a walk answers and leaves is all that it may
  pub only : (after : List Mark) (r : Result Progress Refusal) → Outcome es from piece buffer after r → Only es from piece buffer after r
  only after r x other later y = one_end (ends after r x) (ends later other y)
