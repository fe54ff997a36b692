-- Gathering entries piece by piece. Assumes nothing.
use Rattle.std.proofs.Common.{◌≡◌, ℕ, ◌+◌, ◌<◌, ◌≤◌, List, ◌++◌, map, length, take, IsErrAnd, Err, Result, MatchResult, sym, ap, ◌∙◌, subst, append_assoc, arith, length-append}
use Rattle.std.proofs.lemmas.List.{length-map, length-take}
use Rattle.std.proofs.lemmas.Result.{err_from_is_err_and}
use Rattle.pairs.specs.declared.pair.PairEntry.{PairEntry}
use Rattle.ternary.specs.declared.refusal.Refusal.{Refusal}
use Rattle.ternary.specs.declared.refusal.Refusal.TheVariants.{TooManyEntries}
use Rattle.pair_builder.specs.Choosing.{Gathers}

-- one more piece after what was gathered so far
pub further : (before mid after so_far piece next : List PairEntry) → mid ≡ before ++ so_far → after ≡ mid ++ piece → next ≡ so_far ++ piece → after ≡ before ++ next
further before mid after so_far piece next p q e = q ∙ (ap (λ (es : List PairEntry). es ++ piece) p ∙ (append_assoc before so_far piece ∙ ap (λ (es : List PairEntry). before ++ es) (sym e)))

-- a piece that is refused refuses every whole that is as long
pub broken : (before mid after after' piece whole : List PairEntry) (r : Result (Unit {0}) Refusal) (why : Refusal) → IsErrAnd r (λ e. e ≡ why) →
    Gathers mid after piece (Err why) → length mid + length piece ≤ length before + length whole → Gathers before after' whole r
broken before mid after after' piece whole r why by refused fits =
    let out = err_from_is_err_and r by in
    let more : 4096 < length before + length whole = omega (arith, refused.1) in
    subst (Gathers before after' whole) (sym out.1) (out.2 ∙ refused.0, more)

-- a list that a function makes is as long as its part up to an item, and longer by what follows
pub up_to : {X Y : Type 0} (f : X → Y) (xs : List X) (i : ℕ) → i < length xs → length (map f (take i xs)) + 1 ≤ length (map f xs)
up_to f xs i h = omega (arith, length-map (take i xs) f, length-map xs f, length-take i xs)

-- one piece less is left of the whole
pub lower : (mid after piece rest left whole : List PairEntry) → mid ++ left ≡ whole → after ≡ mid ++ piece → left ≡ piece ++ rest → after ++ rest ≡ whole
lower mid after piece rest left whole p q e = ap (λ (es : List PairEntry). es ++ rest) q ∙ (append_assoc mid piece rest ∙ (ap (λ (es : List PairEntry). mid ++ es) (sym e) ∙ p))

-- a whole of which one piece is refused has too many entries
pub too_long : {X : Type 0} (P : X → Type 0) (mid after piece rest left whole : List PairEntry) (r : Result X Refusal) (why : Refusal) → IsErrAnd r (λ e. e ≡ why) →
    Gathers mid after piece (Err why) → mid ++ left ≡ whole → left ≡ piece ++ rest → MatchResult r P (λ e. (e ≡ TooManyEntries) × (4096 < length whole))
too_long P mid after piece rest left whole r why by refused p e =
    let out = err_from_is_err_and r by in
    let more : 4096 < length whole = omega (arith, refused.1, ap length p, ap length e, length-append mid left, length-append piece rest) in
    subst (λ x. MatchResult x P (λ e. (e ≡ TooManyEntries) × (4096 < length whole))) (sym out.1) (out.2 ∙ refused.0, more)
