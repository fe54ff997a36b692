-- The laws over whole runs, from the book's turns.
use Rattle.std.proofs.Common.{◌≡◌, ℕ, zero, suc, ◌<◌, List, [], ◌∷◌, ◌++◌, length, get_or, take, Some, None, vec_items, Vec, sym, refl, ap, ◌∙◌, subst, arith}
use Rattle.std.specs.declared.alloc.Global.{Global}
use Rattle.ternary.specs.Marks.{Marked}
use Rattle.automaton.specs.Runs.{reach, marks, raised}
use Rattle.automaton.proofs.Marking.{marks_behind}
use Rattle.table.specs.Acceptance.{beyond, malformed, differs, wrong}
use Rattle.scanner.specs.Book.{Told, declined, Book, blank, filled, unchecked, too_small, Loads, declines, enters, Feeds, takes, Restarts, drops}
use Rattle.table.specs.declared.filing.Filing.{Filing}
use Rattle.table.specs.Filed.{filed}
use Rattle.commission.specs.declared.words.Call.{Call}
use Rattle.commission.specs.declared.words.Call.TheVariants.{Load, Feed, Restart}
use Rattle.commission.specs.Journeys.{Turn, Turns, done, then, BookSays, Log, nothing, entered, logged, MarksOf, MarksAreTheJourneys, NeverNoEntry}

-- one turn more
pub turns_push : {capacity : ℕ} {book next after : Book} {calls : List Call} {ts : List Told} (call : Call) (t : Told)
    → Turns capacity book calls ts next → Turn capacity call next t after → Turns capacity book (calls ++ call ∷ []) (ts ++ t ∷ []) after
turns_push call t done turn = then turn done
turns_push call t (then first rest) turn = then first (turns_push call t rest turn)

-- the first turns of a run are a run
turns_take : (n : ℕ) {capacity : ℕ} {book after : Book} {calls : List Call} {ts : List Told} → Turns capacity book calls ts after → (next : Book) × Turns capacity book (take n calls) (take n ts) next
turns_take zero {book = book} turns = (book, done)
turns_take (suc n) (done {book}) = (book, done)
turns_take (suc n) (then first rest) = let r = turns_take n rest in (r.0, then first r.1)

-- the log says what the book says
abbrev Agrees : Log → Book → Type 0
Agrees log blank = (log.loaded ≡ None) × (log.bytes ≡ []) × (log.placed ≡ [])
Agrees log (filled a code bytes) = (log.loaded ≡ Some a) × (log.bytes ≡ bytes) × (log.placed ≡ marks a a.start 0 bytes)

loads_agree : {capacity : ℕ} {book after : Book} (log : Log) (f : Filing) (t : Told) → Loads capacity (filed f) (vec_items f.image) book t after → Agrees log book → Agrees (entered log (Load f) t) after
loads_agree log f t (declines why) agrees = agrees
loads_agree log f t (enters ok room) agrees = (refl, refl, refl)

restarts_agree : {book after : Book} (log : Log) (t : Told) → Restarts book t after → Agrees log book → Agrees (entered log Restart t) after
restarts_agree log t Restarts.unloaded agrees = agrees
restarts_agree log t drops agrees = (agrees.0, refl, refl)

feeds_agree : {book after : Book} (log : Log) (piece : Vec ℕ Global) (slots : ℕ) (t : Told) → Feeds (vec_items piece) slots book t after → Agrees log book → Agrees (entered log (Feed piece slots) t) after
feeds_agree log piece slots t Feeds.unloaded agrees = agrees
feeds_agree log piece slots t (Feeds.too_long long) agrees = agrees
feeds_agree log piece slots t (takes {a} {code} {bytes} n short most) agrees =
    let new = take n (vec_items piece) in
    let s = reach a a.start bytes in (
      agrees.0,
      ap (λ (bs : List ℕ). bs ++ new) agrees.1,
      ap (λ (ms : List Marked). ms ++ raised (length log.bytes) (marks a s 0 new)) agrees.2
          ∙ ap (λ (bs : List ℕ). marks a a.start 0 bytes ++ raised (length bs) (marks a s 0 new)) agrees.1
          ∙ marks_behind a bytes new,
    )

turn-agrees : (capacity : ℕ) (book after : Book) (log : Log) (call : Call) (t : Told) → Turn capacity call book t after → Agrees log book → Agrees (entered log call t) after
turn-agrees capacity book after log (Load f) t turn agrees = loads_agree log f t turn agrees
turn-agrees capacity book after log (Feed piece slots) t turn agrees = feeds_agree log piece slots t turn agrees
turn-agrees capacity book after log Restart t turn agrees = restarts_agree log t turn agrees

turns_agree : {capacity : ℕ} (log : Log) {book after : Book} {calls : List Call} {ts : List Told} → Turns capacity book calls ts after → Agrees log book → Agrees (logged log calls ts) after
turns_agree log done agrees = agrees
turns_agree {capacity} log (then {book = book} {next = next} {call = call} {t = t} turn rest) agrees = turns_agree (entered log call t) rest (turn-agrees capacity book next log call t turn agrees)

marks_from_agrees : (log : Log) (book : Book) → Agrees log book → MarksOf log.loaded log.bytes log.placed
marks_from_agrees log blank agrees = subst (λ o. MarksOf o log.bytes log.placed) (sym agrees.0) agrees.2
marks_from_agrees log (filled a code bytes) agrees =
    subst (λ o. MarksOf o log.bytes log.placed) (sym agrees.0) (agrees.2 ∙ ap (marks a a.start 0) (sym agrees.1))

-- the law on marks
pub marks_are_the_journeys : (capacity : ℕ) (calls : List Call) (ts : List Told) → BookSays capacity calls ts → MarksAreTheJourneys calls ts
marks_are_the_journeys capacity calls ts says n =
    let front = turns_take n says.1 in
    marks_from_agrees (logged nothing (take n calls) (take n ts)) front.0 (turns_agree nothing front.1 (refl, refl, refl))

-- no turn is told number 7
not_seven : (capacity : ℕ) (book after : Book) (call : Call) (t : Told) (vs : List ℕ) → Turn capacity call book t after → t ≡ declined 7 vs → ⊥
not_seven capacity book after (Load f) t vs (declines (unchecked (beyond non))) e = let z : ◌≡◌ {A = ℕ} 0 1 = cc in omega arith
not_seven capacity book after (Load f) t vs (declines (unchecked (malformed at within found))) e = let z : ◌≡◌ {A = ℕ} 0 1 = cc in omega arith
not_seven capacity book after (Load f) t vs (declines (unchecked (differs within sound non))) e = let z : ◌≡◌ {A = ℕ} 0 1 = cc in omega arith
not_seven capacity book after (Load f) t vs (declines (unchecked (wrong s b within sound agree place))) e = let z : ◌≡◌ {A = ℕ} 0 1 = cc in omega arith
not_seven capacity book after (Load f) t vs (declines (too_small ok small)) e = let z : ◌≡◌ {A = ℕ} 0 1 = cc in omega arith
not_seven capacity book after (Load f) t vs (enters ok room) e = let z : ◌≡◌ {A = ℕ} 0 1 = cc in omega arith
not_seven capacity book after (Feed piece slots) t vs Feeds.unloaded e = let z : ◌≡◌ {A = ℕ} 0 1 = cc in omega arith
not_seven capacity book after (Feed piece slots) t vs (Feeds.too_long long) e = let z : ◌≡◌ {A = ℕ} 0 1 = cc in omega arith
not_seven capacity book after (Feed piece slots) t vs (takes n short most) e = let z : ◌≡◌ {A = ℕ} 0 1 = cc in omega arith
not_seven capacity book after Restart t vs Restarts.unloaded e = let z : ◌≡◌ {A = ℕ} 0 1 = cc in omega arith
not_seven capacity book after Restart t vs drops e = let z : ◌≡◌ {A = ℕ} 0 1 = cc in omega arith

turns_not_seven : {capacity : ℕ} (n : ℕ) (vs : List ℕ) (d : Told) {book after : Book} {calls : List Call} {ts : List Told} → Turns capacity book calls ts after → n < length ts → get_or ts n d ≡ declined 7 vs → ⊥
turns_not_seven n vs d done h e = omega arith
turns_not_seven {capacity} zero vs d (then {book = book} {next = next} {call = call} {t = t} turn rest) h e = not_seven capacity book next call t vs turn e
turns_not_seven (suc n) vs d (then turn rest) h e = turns_not_seven n vs d rest (omega arith) e

pub never_no_entry : (capacity : ℕ) (calls : List Call) (ts : List Told) → BookSays capacity calls ts → NeverNoEntry ts
never_no_entry capacity calls ts says n vs d h e = turns_not_seven n vs d says.1 h e
