-- The laws over whole runs, from the book's turns.
use Rattle.std.proofs.Common.{◌≡◌, ℕ, zero, suc, ◌+◌, ◌<◌, true, false, cond, eqb, List, [], ◌∷◌, ◌++◌, length, get_or, take, Some, None, sym, refl, ap, ◌∙◌, subst, add-zero, add_assoc, zero-add, arith}
use Rattle.std.proofs.lemmas.List.{append_assoc, map-append}
use Rattle.ternary.specs.Marks.{Marked, mark}
use Rattle.automaton.specs.Runs.{Dfa, reach, marks, raised}
use Rattle.table.specs.Acceptance as table
use Rattle.pair_table.specs.Acceptance as pairs
use Rattle.scanner.specs.Book.{Book, blank, filled}
use Rattle.pair_scanner.specs.Book.{Told, declined, two_unchecked, one_unchecked, codes_differ, too_small, LoadRefuses, Loads, declines, enters, Feeds, takes, Restarts, drops}
use Rattle.automaton.specs.Limits.{Handed}
use Rattle.pair_commission.specs.Journeys.{Asked, loading, feeding, restarting, Turn, Turns, ended, then, BookSays, Log, nothing, entered, logged, MarksOf, MarksAreTheJourneys, NeverNoEntry}

-- the marks of two lists in a row
pub marks-++ : (a : Dfa) (s place : ℕ) (xs ys : List ℕ) → marks a s place (xs ++ ys) ≡ marks a s place xs ++ marks a (reach a s xs) (place + length xs) ys
marks-++ a s place [] ys = ap (λ n. marks a s n ys) (sym (add-zero place))
marks-++ a s place (x ∷ xs) ys =
    let at : place + 1 + length xs ≡ place + suc (length xs) = omega arith in
    ap (λ (ms : List Marked). mark place (a.class (a.next s x)) ++ ms)
    (marks-++ a (a.next s x) (place + 1) xs ys ∙ ap (λ n. marks a (a.next s x) (place + 1) xs ++ marks a (reach a (a.next s x) xs) n ys) at)
    ∙ sym (append_assoc (mark place (a.class (a.next s x))) (marks a (a.next s x) (place + 1) xs) (marks a (reach a (a.next s x) xs) (place + suc (length xs)) ys))

raised-mark : (n place class : ℕ) → mark (n + place) class ≡ raised n (mark place class)
raised-mark n place class =
    elim (eqb class 0) as (λ t. cond t [] ((n + place, class) ∷ []) ≡ raised n (cond t [] ((place, class) ∷ []))) [ true ↦ refl | false ↦ refl ]

-- marks further on are marks raised
pub marks-raised : (a : Dfa) (n s place : ℕ) (bs : List ℕ) → marks a s (n + place) bs ≡ raised n (marks a s place bs)
marks-raised a n s place [] = refl
marks-raised a n s place (b ∷ bs) =
    let t = a.next s b in
    ap (λ (ms : List Marked). mark (n + place) (a.class t) ++ ms) (ap (λ p. marks a t p bs) (add_assoc n place 1) ∙ marks-raised a n t (place + 1) bs)
    ∙ ap (λ (ms : List Marked). ms ++ raised n (marks a t (place + 1) bs)) (raised-mark n place (a.class t))
    ∙ sym (map-append (λ (m : Marked). (n + m.0, m.1)) (mark place (a.class t)) (marks a t (place + 1) bs))

-- one turn more
pub turns_push : {pair_capacity capacity : ℕ} {book next after : Book} {calls : List Asked} {ts : List Told} (call : Asked) (t : Told)
    → Turns pair_capacity capacity book calls ts next → Turn pair_capacity capacity call next t after → Turns pair_capacity capacity book (calls ++ call ∷ []) (ts ++ t ∷ []) after
turns_push call t ended turn = then turn ended
turns_push call t (then first rest) turn = then first (turns_push call t rest turn)

-- the first turns of a run are a run
turns_take : (n : ℕ) {pair_capacity capacity : ℕ} {book after : Book} {calls : List Asked} {ts : List Told} → Turns pair_capacity capacity book calls ts after → (next : Book) × Turns pair_capacity capacity book (take n calls) (take n ts) next
turns_take zero {book = book} turns = (book, ended)
turns_take (suc n) (ended {book}) = (book, ended)
turns_take (suc n) (then first rest) = let r = turns_take n rest in (r.0, then first r.1)

-- the log says what the book says
abbrev Agrees : Log → Book → Type 0
Agrees log blank = (log.loaded ≡ None) × (log.bytes ≡ []) × (log.placed ≡ [])
Agrees log (filled a code bytes) = (log.loaded ≡ Some a) × (log.bytes ≡ bytes) × (log.placed ≡ marks a a.start 0 bytes)

loads_agree : {pair_capacity capacity : ℕ} (a : Handed) (two one : List ℕ) {book after : Book} (log : Log) (t : Told) → Loads pair_capacity capacity a two one book t after → Agrees log book → Agrees (entered log (loading a two one) t) after
loads_agree a two one log t (declines why) agrees = agrees
loads_agree a two one log t (enters ok) agrees = (refl, refl, refl)

restarts_agree : {book after : Book} (log : Log) (t : Told) → Restarts book t after → Agrees log book → Agrees (entered log restarting t) after
restarts_agree log t Restarts.unloaded agrees = agrees
restarts_agree log t drops agrees = (agrees.0, refl, refl)

feeds_agree : {book after : Book} (log : Log) (piece : List ℕ) (slots : ℕ) (t : Told) → Feeds piece slots book t after → Agrees log book → Agrees (entered log (feeding piece slots) t) after
feeds_agree log piece slots t Feeds.unloaded agrees = agrees
feeds_agree log piece slots t (Feeds.too_long long) agrees = agrees
feeds_agree log piece slots t (takes {a} {code} {bytes} n short most) agrees =
    let new = take n piece in
    let s = reach a a.start bytes in (
      agrees.0,
      ap (λ (bs : List ℕ). bs ++ new) agrees.1,
      ap (λ (ms : List Marked). ms ++ raised (length log.bytes) (marks a s 0 new)) agrees.2
          ∙ ap (λ (bs : List ℕ). marks a a.start 0 bytes ++ raised (length bs) (marks a s 0 new)) agrees.1
          ∙ ap (λ (ms : List Marked). marks a a.start 0 bytes ++ ms) (sym (marks-raised a (length bytes) s 0 new) ∙ ap (λ n. marks a s n new) (add-zero (length bytes) ∙ sym (zero-add (length bytes))))
          ∙ sym (marks-++ a a.start 0 bytes new),
    )

turn-agrees : (pair_capacity capacity : ℕ) (book after : Book) (log : Log) (call : Asked) (t : Told) → Turn pair_capacity capacity call book t after → Agrees log book → Agrees (entered log call t) after
turn-agrees pair_capacity capacity book after log (loading a two one) t turn agrees = loads_agree a two one log t turn agrees
turn-agrees pair_capacity capacity book after log (feeding piece slots) t turn agrees = feeds_agree log piece slots t turn agrees
turn-agrees pair_capacity capacity book after log restarting t turn agrees = restarts_agree log t turn agrees

turns_agree : {pair_capacity capacity : ℕ} (log : Log) {book after : Book} {calls : List Asked} {ts : List Told} → Turns pair_capacity capacity book calls ts after → Agrees log book → Agrees (logged log calls ts) after
turns_agree log ended agrees = agrees
turns_agree {pair_capacity} {capacity} log (then {book = book} {next = next} {call = call} {t = t} turn rest) agrees = turns_agree (entered log call t) rest (turn-agrees pair_capacity capacity book next log call t turn agrees)

marks_from_agrees : (log : Log) (book : Book) → Agrees log book → MarksOf log.loaded log.bytes log.placed
marks_from_agrees log blank agrees = subst (λ o. MarksOf o log.bytes log.placed) (sym agrees.0) agrees.2
marks_from_agrees log (filled a code bytes) agrees =
    subst (λ o. MarksOf o log.bytes log.placed) (sym agrees.0) (agrees.2 ∙ ap (marks a a.start 0) (sym agrees.1))

-- the law on marks
pub marks_are_the_journeys : (pair_capacity capacity : ℕ) (calls : List Asked) (ts : List Told) → BookSays pair_capacity capacity calls ts → MarksAreTheJourneys calls ts
marks_are_the_journeys pair_capacity capacity calls ts says n =
    let front = turns_take n says.1 in
    marks_from_agrees (logged nothing (take n calls) (take n ts)) front.0 (turns_agree nothing front.1 (refl, refl, refl))

-- no load is refused by number 7
refuses_not_seven : {pair_capacity capacity : ℕ} {a : Handed} {two one : List ℕ} {n : ℕ} {vs : List ℕ} → LoadRefuses pair_capacity capacity a two one n vs → n ≡ 7 → ⊥
refuses_not_seven (two_unchecked (pairs.beyond non)) e = omega arith
refuses_not_seven (two_unchecked (pairs.malformed at within found)) e = omega arith
refuses_not_seven (two_unchecked (pairs.differs within sound non)) e = omega arith
refuses_not_seven (two_unchecked (pairs.wrong s b c within sound agree place)) e = omega arith
refuses_not_seven (one_unchecked ok (table.beyond non)) e = omega arith
refuses_not_seven (one_unchecked ok (table.malformed at within found)) e = omega arith
refuses_not_seven (one_unchecked ok (table.differs within sound non)) e = omega arith
refuses_not_seven (one_unchecked ok (table.wrong s b within sound agree place)) e = omega arith
refuses_not_seven (codes_differ ok fine non) e = omega arith
refuses_not_seven (too_small ok fine same small) e = omega arith

abbrev number_of : Told → ℕ
number_of (declined n vs) = n
number_of Told.accepted = 0
number_of (Told.fed n count ms code stopped) = 0

-- no turn is told number 7
not_seven : (pair_capacity capacity : ℕ) (call : Asked) (book after : Book) (t : Told) (vs : List ℕ) → Turn pair_capacity capacity call book t after → t ≡ declined 7 vs → ⊥
not_seven pair_capacity capacity (loading a two one) book after t vs (declines why) e = refuses_not_seven why (ap number_of e)
not_seven pair_capacity capacity (loading a two one) book after t vs (enters ok) e = let z : ◌≡◌ {A = ℕ} 0 1 = cc in omega arith
not_seven pair_capacity capacity (feeding piece slots) book after t vs Feeds.unloaded e = let z : ◌≡◌ {A = ℕ} 0 1 = cc in omega arith
not_seven pair_capacity capacity (feeding piece slots) book after t vs (Feeds.too_long long) e = let z : ◌≡◌ {A = ℕ} 0 1 = cc in omega arith
not_seven pair_capacity capacity (feeding piece slots) book after t vs (takes n short most) e = let z : ◌≡◌ {A = ℕ} 0 1 = cc in omega arith
not_seven pair_capacity capacity restarting book after t vs Restarts.unloaded e = let z : ◌≡◌ {A = ℕ} 0 1 = cc in omega arith
not_seven pair_capacity capacity restarting book after t vs drops e = let z : ◌≡◌ {A = ℕ} 0 1 = cc in omega arith

turns_not_seven : {pair_capacity capacity : ℕ} (n : ℕ) (vs : List ℕ) (d : Told) {book after : Book} {calls : List Asked} {ts : List Told} → Turns pair_capacity capacity book calls ts after → n < length ts → get_or ts n d ≡ declined 7 vs → ⊥
turns_not_seven n vs d ended h e = omega arith
turns_not_seven {pair_capacity} {capacity} zero vs d (then {book = book} {next = next} {call = call} {t = t} turn rest) h e = not_seven pair_capacity capacity call book next t vs turn e
turns_not_seven (suc n) vs d (then turn rest) h e = turns_not_seven n vs d rest (omega arith) e

pub never_no_entry : (pair_capacity capacity : ℕ) (calls : List Asked) (ts : List Told) → BookSays pair_capacity capacity calls ts → NeverNoEntry ts
never_no_entry pair_capacity capacity calls ts says n vs d h e = turns_not_seven n vs d says.1 h e
