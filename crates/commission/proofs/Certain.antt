-- The book says one thing to each list of calls.
use Rattle.std.proofs.Common.{◌≡◌, ℕ, List, ◌∷◌, ◌++◌, take, sym, refl, ap, ◌∙◌, subst, arith}
use Rattle.automaton.specs.Limits.{Handed}
use Rattle.automaton.specs.Runs.{Dfa, reach}
use Rattle.table.proofs.OneVerdict.{not_refused, one_refusal}
use Rattle.scanner.specs.Book.{Told, declined, Book, filled, unchecked, too_small, Loads, declines, enters, MostBytes, report, Feeds, takes, Restarts, drops}
use Rattle.commission.specs.declared.words.Call.{Call}
use Rattle.commission.specs.declared.words.Call.TheVariants.{Load, Feed, Restart}
use Rattle.commission.specs.Journeys.{Turn, Turns, done, then, BookSays}

-- there is one largest count
most_one : {a : Dfa} {s : ℕ} {piece : List ℕ} {slots n m : ℕ} → MostBytes a s piece slots n → MostBytes a s piece slots m → n ≡ m
most_one {n = n} {m = m} x y = omega (arith, x.most m y.within y.fits, y.most n x.within x.fits)

feeds_one : {piece : List ℕ} {slots : ℕ} {book after later : Book} {t u : Told} → Feeds piece slots book t after → Feeds piece slots book u later → (t ≡ u) × (after ≡ later)
feeds_one Feeds.unloaded Feeds.unloaded = (refl, refl)
feeds_one (Feeds.too_long long) (Feeds.too_long again) = (refl, refl)
feeds_one (Feeds.too_long long) (takes n short most) = absurd (omega arith)
feeds_one (takes n short most) (Feeds.too_long long) = absurd (omega arith)
feeds_one {piece} (takes {a} {code} {bytes} n short most) (takes m also mine) =
    let same = most_one most mine in
    (ap (report a code (reach a a.start bytes) piece) same, ap (λ k. filled a code (bytes ++ take k piece)) same)

restarts_one : {book after later : Book} {t u : Told} → Restarts book t after → Restarts book u later → (t ≡ u) × (after ≡ later)
restarts_one Restarts.unloaded Restarts.unloaded = (refl, refl)
restarts_one drops drops = (refl, refl)

loads_one : {capacity : ℕ} {a : Handed} {image : List ℕ} {book after later : Book} {t u : Told} → Loads capacity a image book t after → Loads capacity a image book u later → (t ≡ u) × (after ≡ later)
loads_one {a = a} {image = image} (declines {n = n} {vs = vs} (unchecked why)) (declines {n = m} {vs = ws} (unchecked again)) =
    let same = one_refusal a image n m vs ws why again in
    (ap (λ k. declined k vs) same.0 ∙ ap (declined m) same.1, refl)
loads_one {a = a} {image = image} (declines {n = n} {vs = vs} (unchecked why)) (declines (too_small ok small)) = absurd (not_refused a image n vs ok why)
loads_one {a = a} {image = image} (declines {n = n} {vs = vs} (unchecked why)) (enters ok room) = absurd (not_refused a image n vs ok why)
loads_one {a = a} {image = image} (declines (too_small ok small)) (declines {n = n} {vs = vs} (unchecked why)) = absurd (not_refused a image n vs ok why)
loads_one (declines (too_small ok small)) (declines (too_small also few)) = (refl, refl)
loads_one (declines (too_small ok small)) (enters also room) = absurd (omega arith)
loads_one {a = a} {image = image} (enters ok room) (declines {n = n} {vs = vs} (unchecked why)) = absurd (not_refused a image n vs ok why)
loads_one (enters ok room) (declines (too_small also small)) = absurd (omega arith)
loads_one (enters ok room) (enters also more) = (refl, refl)

turn_one : (capacity : ℕ) (book after later : Book) (call : Call) (t u : Told) → Turn capacity call book t after → Turn capacity call book u later → (t ≡ u) × (after ≡ later)
turn_one capacity book after later (Load f) t u x y = loads_one x y
turn_one capacity book after later (Feed piece slots) t u x y = feeds_one x y
turn_one capacity book after later Restart t u x y = restarts_one x y

turns_one : {capacity : ℕ} {book after : Book} {calls : List Call} {ts : List Told} → Turns capacity book calls ts after → {later : Book} {us : List Told} → Turns capacity book calls us later → ts ≡ us
turns_one done done = refl
turns_one {capacity} (then {book = book} {next = next} {call = call} {t = t} {ts = ts} turn rest) {later} (then {next = other} {calls = calls} {t = u} {ts = us} again more) =
    let same = turn_one capacity book next other call t u turn again in
    ap (λ (x : Told). x ∷ ts) same.0 ∙ ap (λ (xs : List Told). u ∷ xs) (turns_one rest (subst (λ b. Turns capacity b calls us later) (sym same.1) more))

pub one_answer : (capacity : ℕ) (calls : List Call) (ts us : List Told) → BookSays capacity calls ts → BookSays capacity calls us → ts ≡ us
one_answer capacity calls ts us x y = turns_one x.1 y.1
