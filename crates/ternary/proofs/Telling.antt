-- The number and the values of a refusal tell it from every other.
use Rattle.std.proofs.Common.{◌≡◌, ℕ, Bool, true, false, cond, eqb, List, length, get_or, sym, refl, ap, ◌∙◌}
use Rattle.ternary.specs.declared.refusal.Refusal.{Refusal}
use Rattle.ternary.specs.declared.refusal.Refusal.TheVariants.{BadAutomaton, WorkTooShort, OutputTooShort, TooManyEntries, CardFull, CardTooSmall, NoEntry, NotLoaded, PieceTooLong, Malformed, Mismatch, WrongEntry, WrongPair, OutsideBuffer, BadCoach, BytesWaiting, BadTurn, WrongPattern, PatternsTooLarge, TooManySets, CodesDiffer}
use Rattle.ternary.specs.Refusals.{number, values, KnownBy}

-- the refusal of a number, by its values
abbrev numbered : ℕ → List ℕ → Refusal
numbered n vs =
    cond (eqb n 1) BadAutomaton
    (cond (eqb n 2) WorkTooShort
    (cond (eqb n 3) OutputTooShort
    (cond (eqb n 4) TooManyEntries
    (cond (eqb n 5) CardFull
    (cond (eqb n 6) CardTooSmall
    (cond (eqb n 7) (NoEntry (record { taken = get_or vs 0 0; marks = get_or vs 1 0; code = record { 0 = get_or vs 2 0 }; marks_full = eqb (get_or vs 3 0) 1; searches = get_or vs 4 0 }))
    (cond (eqb n 8) NotLoaded
    (cond (eqb n 9) PieceTooLong
    (cond (eqb n 10) (Malformed (get_or vs 0 0))
    (cond (eqb n 11) Mismatch
    (cond (eqb n 14) OutsideBuffer
    (cond (eqb n 16) BadCoach
    (cond (eqb n 17) BytesWaiting
    (cond (eqb n 18) BadTurn
    (cond (eqb n 19) (WrongPattern (get_or vs 0 0) (get_or vs 1 0))
    (cond (eqb n 20) PatternsTooLarge
    (cond (eqb n 21) TooManySets
    (cond (eqb n 22) CodesDiffer
    (cond (eqb (length vs) 2) (WrongEntry (record { 0 = get_or vs 0 0 }) (get_or vs 1 0)) (WrongPair (record { 0 = get_or vs 0 0 }) (get_or vs 1 0) (get_or vs 2 0)))))))))))))))))))))

flag_back : (b : Bool) → eqb (cond b 1 0) 1 ≡ b
flag_back true = refl
flag_back false = refl

told_back : (why : Refusal) → numbered (number why) (values why) ≡ why
told_back BadAutomaton = refl
told_back WorkTooShort = refl
told_back OutputTooShort = refl
told_back TooManyEntries = refl
told_back CardFull = refl
told_back CardTooSmall = refl
told_back (NoEntry p) =
    ap (λ (b : Bool). NoEntry (record { taken = p.taken; marks = p.marks; code = p.code; marks_full = b; searches = p.searches })) (flag_back p.marks_full)
told_back NotLoaded = refl
told_back PieceTooLong = refl
told_back (Malformed at) = refl
told_back Mismatch = refl
told_back (WrongEntry s b) = refl
told_back (WrongPair s b c) = refl
told_back OutsideBuffer = refl
told_back BadCoach = refl
told_back BytesWaiting = refl
told_back BadTurn = refl
told_back (WrongPattern pattern place) = refl
told_back PatternsTooLarge = refl
told_back TooManySets = refl
told_back CodesDiffer = refl

-- a refusal known by the number and the values of another is that one
pub known_one : (why other : Refusal) → KnownBy why (number other) (values other) → why ≡ other
known_one why other known =
    sym (told_back why) ∙ ap (λ n. numbered n (values why)) known.0 ∙ ap (λ (vs : List ℕ). numbered (number other) vs) known.1 ∙ told_back other
