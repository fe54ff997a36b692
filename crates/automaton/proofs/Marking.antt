-- The marks of a run: of bytes in a row, further on, and how many there are.
use Rattle.std.proofs.Common.{◌≡◌, ℕ, suc, ◌+◌, ◌≤◌, true, false, cond, eqb, List, [], ◌∷◌, ◌++◌, length, sym, refl, ap, ◌∙◌, add-zero, add_assoc, zero-add, arith, length-append}
use Rattle.std.proofs.lemmas.List.{append_assoc, map-append}
use Rattle.ternary.specs.Marks.{Marked, mark}
use Rattle.automaton.specs.Runs.{Dfa, reach, marks, raised}

-- the marks of two lists in a row
pub marks-++ : (a : Dfa) (s place : ℕ) (xs ys : List ℕ) → marks a s place (xs ++ ys) ≡ marks a s place xs ++ marks a (reach a s xs) (place + length xs) ys
marks-++ a s place [] ys = ap (λ n. marks a s n ys) (sym (add-zero place))
marks-++ a s place (x ∷ xs) ys =
    let at : place + 1 + length xs ≡ place + suc (length xs) = omega arith in
    ap (λ (ms : List Marked). mark place (a.class (a.next s x)) ++ ms)
    (marks-++ a (a.next s x) (place + 1) xs ys ∙ ap (λ n. marks a (a.next s x) (place + 1) xs ++ marks a (reach a (a.next s x) xs) n ys) at)
    ∙ sym (append_assoc (mark place (a.class (a.next s x))) (marks a (a.next s x) (place + 1) xs) (marks a (reach a (a.next s x) xs) (place + suc (length xs)) ys))

raised-mark : (n place class : ℕ) → mark (n + place) class ≡ raised n (mark place class)
raised-mark n place class =
    elim (eqb class 0) as (λ t. cond t [] ((n + place, class) ∷ []) ≡ raised n (cond t [] ((place, class) ∷ []))) [ true ↦ refl | false ↦ refl ]

-- marks further on are marks raised
pub marks-raised : (a : Dfa) (n s place : ℕ) (bs : List ℕ) → marks a s (n + place) bs ≡ raised n (marks a s place bs)
marks-raised a n s place [] = refl
marks-raised a n s place (b ∷ bs) =
    let t = a.next s b in
    ap (λ (ms : List Marked). mark (n + place) (a.class t) ++ ms) (ap (λ p. marks a t p bs) (add_assoc n place 1) ∙ marks-raised a n t (place + 1) bs)
    ∙ ap (λ (ms : List Marked). ms ++ raised n (marks a t (place + 1) bs)) (raised-mark n place (a.class t))
    ∙ sym (map-append (λ (m : Marked). (n + m.0, m.1)) (mark place (a.class t)) (marks a t (place + 1) bs))

-- what is marked behind bytes that were taken
pub marks_behind : (a : Dfa) (bytes new : List ℕ) → marks a a.start 0 bytes ++ raised (length bytes) (marks a (reach a a.start bytes) 0 new) ≡ marks a a.start 0 (bytes ++ new)
marks_behind a bytes new =
    ap (λ (ms : List Marked). marks a a.start 0 bytes ++ ms)
    (sym (marks-raised a (length bytes) (reach a a.start bytes) 0 new) ∙ ap (λ n. marks a (reach a a.start bytes) n new) (add-zero (length bytes) ∙ sym (zero-add (length bytes))))
    ∙ sym (marks-++ a a.start 0 bytes new)

length-mark : (place class : ℕ) → length (mark place class) ≤ 1
length-mark place class = elim (eqb class 0) as (λ t. length {A = Marked} (cond t [] ((place, class) ∷ [])) ≤ 1) [ true ↦ omega arith | false ↦ omega arith ]

-- no more marks than bytes
pub length-marks : (a : Dfa) (s place : ℕ) (bs : List ℕ) → length (marks a s place bs) ≤ length bs
length-marks a s place [] = omega arith
length-marks a s place (b ∷ bs) =
    let one = length-mark place (a.class (a.next s b)) in
    let more = length-marks a (a.next s b) (place + 1) bs in
    omega (arith, length-append (mark place (a.class (a.next s b))) (marks a (a.next s b) (place + 1) bs))
