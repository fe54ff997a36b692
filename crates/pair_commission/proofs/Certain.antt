-- The book says one thing to each list of calls.
use Rattle.std.proofs.Common.{◌≡◌, ℕ, List, ◌∷◌, ◌++◌, take, sym, refl, ap, ◌∙◌, subst, inl, inr, arith}
use Rattle.automaton.specs.Limits.{Handed}
use Rattle.automaton.specs.Runs.{Dfa, reach}
use Rattle.table.proofs.OneVerdict.{not_refused, one_refusal}
use Rattle.pair_table.proofs.OneVerdict as pairs
use Rattle.scanner.specs.Book.{Book, filled, MostBytes}
use Rattle.pair_scanner.specs.Book.{Told, declined, two_unchecked, one_unchecked, codes_differ, too_small, LoadRefuses, Loadable, Loads, declines, enters, report, Feeds, takes, Restarts, drops}
use Rattle.pair_commission.specs.Journeys.{Asked, loading, feeding, restarting, Turn, Turns, ended, then, BookSays}

-- there is one largest count
most_one : {a : Dfa} {s : ℕ} {piece : List ℕ} {slots n m : ℕ} → MostBytes a s piece slots n → MostBytes a s piece slots m → n ≡ m
most_one {n = n} {m = m} x y = omega (arith, x.most m y.within y.fits, y.most n x.within x.fits)

feeds_one : {piece : List ℕ} {slots : ℕ} {book after later : Book} {t u : Told} → Feeds piece slots book t after → Feeds piece slots book u later → (t ≡ u) × (after ≡ later)
feeds_one Feeds.unloaded Feeds.unloaded = (refl, refl)
feeds_one (Feeds.too_long long) (Feeds.too_long again) = (refl, refl)
feeds_one (Feeds.too_long long) (takes n short most) = absurd (omega arith)
feeds_one (takes n short most) (Feeds.too_long long) = absurd (omega arith)
feeds_one {piece} (takes {a} {code} {bytes} n short most) (takes m also mine) =
    let same = most_one most mine in
    (ap (report a code (reach a a.start bytes) piece) same, ap (λ k. filled a code (bytes ++ take k piece)) same)

restarts_one : {book after later : Book} {t u : Told} → Restarts book t after → Restarts book u later → (t ≡ u) × (after ≡ later)
restarts_one Restarts.unloaded Restarts.unloaded = (refl, refl)
restarts_one drops drops = (refl, refl)

-- a load has one refusal, and is not refused where it is accepted
refuses_one : {pair_capacity capacity : ℕ} {a : Handed} {two one : List ℕ} {n m : ℕ} {vs ws : List ℕ} → LoadRefuses pair_capacity capacity a two one n vs → LoadRefuses pair_capacity capacity a two one m ws → (n ≡ m) × (vs ≡ ws)
refuses_one {a = a} {two = two} (two_unchecked {n = n} {vs = vs} why) (two_unchecked {n = m} {vs = ws} again) = pairs.one_refusal a two n m vs ws why again
refuses_one {a = a} {two = two} (two_unchecked {n = n} {vs = vs} why) (one_unchecked ok other) = absurd (pairs.not_refused a two n vs ok why)
refuses_one {a = a} {two = two} (two_unchecked {n = n} {vs = vs} why) (codes_differ ok also non) = absurd (pairs.not_refused a two n vs ok why)
refuses_one {a = a} {two = two} (two_unchecked {n = n} {vs = vs} why) (too_small ok also same small) = absurd (pairs.not_refused a two n vs ok why)
refuses_one {a = a} {two = two} (one_unchecked ok other) (two_unchecked {n = n} {vs = vs} why) = absurd (pairs.not_refused a two n vs ok why)
refuses_one {a = a} {one = one} (one_unchecked {n = n} {vs = vs} ok why) (one_unchecked {n = m} {vs = ws} also again) = one_refusal a one n m vs ws why again
refuses_one {a = a} {one = one} (one_unchecked {n = n} {vs = vs} ok why) (codes_differ also fine non) = absurd (not_refused a one n vs fine why)
refuses_one {a = a} {one = one} (one_unchecked {n = n} {vs = vs} ok why) (too_small also fine same small) = absurd (not_refused a one n vs fine why)
refuses_one {a = a} {two = two} (codes_differ ok also non) (two_unchecked {n = n} {vs = vs} why) = absurd (pairs.not_refused a two n vs ok why)
refuses_one {a = a} {one = one} (codes_differ ok fine non) (one_unchecked {n = n} {vs = vs} also why) = absurd (not_refused a one n vs fine why)
refuses_one (codes_differ ok fine non) (codes_differ ok' fine' non') = (refl, refl)
refuses_one (codes_differ ok fine non) (too_small ok' fine' same small) = absurd (non same)
refuses_one {a = a} {two = two} (too_small ok fine same small) (two_unchecked {n = n} {vs = vs} why) = absurd (pairs.not_refused a two n vs ok why)
refuses_one {a = a} {one = one} (too_small ok fine same small) (one_unchecked {n = n} {vs = vs} also why) = absurd (not_refused a one n vs fine why)
refuses_one (too_small ok fine same small) (codes_differ ok' fine' non) = absurd (non same)
refuses_one (too_small ok fine same small) (too_small ok' fine' same' small') = (refl, refl)

never_both : {pair_capacity capacity : ℕ} {a : Handed} {two one : List ℕ} {n : ℕ} {vs : List ℕ} → LoadRefuses pair_capacity capacity a two one n vs → Loadable pair_capacity capacity a two one → ⊥
never_both {a = a} {two = two} (two_unchecked {n = n} {vs = vs} why) ok = pairs.not_refused a two n vs ok.two why
never_both {a = a} {one = one} (one_unchecked {n = n} {vs = vs} also why) ok = not_refused a one n vs ok.one why
never_both (codes_differ ok' fine' non) ok = non ok.same
never_both (too_small ok' fine' same (inl small)) ok = omega (arith, ok.two_room)
never_both (too_small ok' fine' same (inr small)) ok = omega (arith, ok.one_room)

loads_one : {pair_capacity capacity : ℕ} {a : Handed} {two one : List ℕ} {book after later : Book} {t u : Told} → Loads pair_capacity capacity a two one book t after → Loads pair_capacity capacity a two one book u later → (t ≡ u) × (after ≡ later)
loads_one (declines {n = n} {vs = vs} why) (declines {n = m} {vs = ws} again) =
    let same = refuses_one why again in
    (ap (λ k. declined k vs) same.0 ∙ ap (declined m) same.1, refl)
loads_one (declines why) (enters ok) = absurd (never_both why ok)
loads_one (enters ok) (declines why) = absurd (never_both why ok)
loads_one (enters ok) (enters also) = (refl, refl)

turn_one : (pair_capacity capacity : ℕ) (book after later : Book) (call : Asked) (t u : Told) → Turn pair_capacity capacity call book t after → Turn pair_capacity capacity call book u later → (t ≡ u) × (after ≡ later)
turn_one pair_capacity capacity book after later (loading a two one) t u x y = loads_one x y
turn_one pair_capacity capacity book after later (feeding piece slots) t u x y = feeds_one x y
turn_one pair_capacity capacity book after later restarting t u x y = restarts_one x y

turns_one : {pair_capacity capacity : ℕ} {book after : Book} {calls : List Asked} {ts : List Told} → Turns pair_capacity capacity book calls ts after → {later : Book} {us : List Told} → Turns pair_capacity capacity book calls us later → ts ≡ us
turns_one ended ended = refl
turns_one {pair_capacity} {capacity} (then {book = book} {next = next} {call = call} {t = t} {ts = ts} turn rest) {later} (then {next = other} {calls = calls} {t = u} {ts = us} again more) =
    let same = turn_one pair_capacity capacity book next other call t u turn again in
    ap (λ (x : Told). x ∷ ts) same.0 ∙ ap (λ (xs : List Told). u ∷ xs) (turns_one rest (subst (λ b. Turns pair_capacity capacity b calls us later) (sym same.1) more))

pub one_answer : (pair_capacity capacity : ℕ) (calls : List Asked) (ts us : List Told) → BookSays pair_capacity capacity calls ts → BookSays pair_capacity capacity calls us → ts ≡ us
one_answer pair_capacity capacity calls ts us x y = turns_one x.1 y.1
