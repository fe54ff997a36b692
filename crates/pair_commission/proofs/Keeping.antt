-- Each call keeps the books of what is to be seen, and so every series of calls is lawful.
use Rattle.std.proofs.Common.{◌≡◌, ℕ, ◌+◌, true, List, [], ◌∷◌, map, length, is_err, IfOk, Some, None, Ok, Err, Option, Result, sym, refl, ap, ◌∙◌, subst, arith}
use Rattle.ternary.specs.declared.refusal.Refusal.{Refusal}
use Rattle.ternary.specs.declared.refusal.Refusal.TheVariants.{NotLoaded}
use Rattle.ternary.specs.declared.words.Mark.{Mark}
use Rattle.ternary.specs.declared.words.Progress.{Progress}
use Rattle.automaton.specs.Limits.{Handed}
use Rattle.pair_walk.specs.Walks.{AsOneByte, Serves, Searched}
use Rattle.pair_walk.specs.Walks as walks
use Rattle.pair_walk.proofs.Law.{served}
use Rattle.scanner.specs.Book.{Book, blank, filled}
use Rattle.scanner.proofs.Simulation.{Bytes}
use Rattle.pair_scanner.specs.declared.lent.Position.{Position}
use Rattle.pair_scanner.specs.Book.{Told, Loads, Feeds, Restarts}
use Rattle.pair_scanner.specs.Scanners.{Seen, moved, at_start, LoadAnswer, reached, FeedAnswer, RestartAnswer, Keeps, done_told, fed_told, KeepsOn, SearchesFew}
use Rattle.pair_scanner.proofs.Turns.{restart_declines, restart_drops, feed_takes, feed_searches, load_declines, load_enters}
use Rattle.pair_commission.specs.Journeys.{Asked, loading, feeding, restarting, Reply, told, Turn, Turns, BookSays, SearchedCall, AllSearched, Lawful}
use Rattle.pair_commission.specs.Laws.{done_reply, walk_reply, Step, Chain}
use Rattle.pair_commission.proofs.Certain.{one_answer}
use Rattle.pair_commission.proofs.Marking.{marks_are_the_journeys, never_no_entry}

told_done : (r : Result (Unit {0}) Refusal) → told (done_reply r) ≡ done_told r
told_done (Ok u) = refl
told_done (Err why) = refl

told_walk : (r : Result Progress Refusal) (after : List Mark) → told (walk_reply r after) ≡ fed_told r after
told_walk (Ok p) after = refl
told_walk (Err why) after = refl

-- ---- a load

load_keeps : (a : Handed) (two one : List ℕ) (s next : Seen) (r : Result (Unit {0}) Refusal) → LoadAnswer a two one s next r → (is_err r ≡ true → next ≡ s) → KeepsOn (Loads s.pair_capacity s.capacity a two one) s (done_told r) next
load_keeps a two one s next (Ok u) entered same = load_enters s next a two one entered
load_keeps a two one s next (Err why) refuses same =
    subst (λ (n : Seen). KeepsOn (Loads s.pair_capacity s.capacity a two one) s (done_told (Err why)) n) (sym (same refl)) (load_declines s a two one (Err why) why refl refuses)

load_sizes : (a : Handed) (two one : List ℕ) (s next : Seen) (r : Result (Unit {0}) Refusal) → LoadAnswer a two one s next r → (is_err r ≡ true → next ≡ s) → (next.pair_capacity ≡ s.pair_capacity) × (next.capacity ≡ s.capacity)
load_sizes a two one s next (Ok u) entered same = (entered.pair_capacity, entered.capacity)
load_sizes a two one s next (Err why) refuses same = (ap (λ (n : Seen). n.pair_capacity) (same refl), ap (λ (n : Seen). n.capacity) (same refl))

-- ---- a feed

feed_unloaded : (s : Seen) (piece : List ℕ) (buffer : List Mark) (position : Option Position) → s.position ≡ None → position ≡ None → KeepsOn (Feeds piece (length buffer)) s (fed_told (Err NotLoaded) buffer) (moved s position)
feed_unloaded s piece buffer position none is blank keeps = record { page = blank; answer = Feeds.unloaded; keeps = is }
feed_unloaded s piece buffer position none is (filled a code bytes) keeps = let e = keeps.position in let z : ◌≡◌ {A = ℕ} 0 1 = cc in absurd (omega arith)

module _ (s : Seen) (piece : List ℕ) (buffer after : List Mark) (r : Result Progress Refusal) (position : Option Position) (all : Bytes piece) where
  -- where both cards serve, the walk is that of one byte a search
  serving : (at : Position) → r ≡ walks.answer s.list s.pair_list at.code piece (length buffer) → after ≡ walks.leaves s.list s.pair_list at.code piece buffer
      → Serves s.list s.pair_list at.code → AsOneByte s.list at.code piece buffer after r
  serving at told_is left v =
      subst (λ (x : Result Progress Refusal). AsOneByte s.list at.code piece buffer after x) (sym told_is)
      (subst (λ (l : List Mark). AsOneByte s.list at.code piece buffer l (walks.answer s.list s.pair_list at.code piece (length buffer))) (sym left) (served s.list s.pair_list at.code piece buffer all v))

  feed_keeps : (o : Option Position) → s.position ≡ o → FeedAnswer s.pair_list s.list o position piece buffer after r → KeepsOn (Feeds piece (length buffer)) s (fed_told r after) (moved s position)
  feed_keeps None none x =
      subst (λ (y : Result Progress Refusal). KeepsOn (Feeds piece (length buffer)) s (fed_told y after) (moved s position)) (sym x.0) (feed_unloaded s piece buffer position none x.1)
  feed_keeps (Some at) some x =
      subst (λ (o : Option Position). KeepsOn (Feeds piece (length buffer)) s (fed_told r after) (moved s o)) (sym x.2)
      (feed_takes s at piece buffer after r (reached at.code r) some all (serving at x.0 x.1) refl)

  feed_few : (o : Option Position) → s.position ≡ o → FeedAnswer s.pair_list s.list o position piece buffer after r → SearchesFew s piece r
  feed_few None none x = λ book keeps. subst (λ (y : Result Progress Refusal). IfOk y (Searched (length piece))) (sym x.0) tt
  feed_few (Some at) some x = feed_searches s at piece buffer after r some all (serving at x.0 x.1)

few_searched : (piece : List ℕ) (slots : ℕ) (r : Result Progress Refusal) (after : List Mark) → IfOk r (Searched (length piece)) → SearchedCall (feeding piece slots) (walk_reply r after)
few_searched piece slots (Ok p) after w = w
few_searched piece slots (Err why) after w = tt

-- ---- a restart

restart_keeps : (s : Seen) (r : Result (Unit {0}) Refusal) (position o : Option Position) → s.position ≡ o → RestartAnswer o position r → KeepsOn Restarts s (done_told r) (moved s position)
restart_keeps s r position None none x =
    subst (λ (y : Result (Unit {0}) Refusal). KeepsOn Restarts s (done_told y) (moved s position)) (sym x.0) (restart_declines s position (none ∙ sym x.1) x.1)
restart_keeps s r position (Some at) some x =
    subst (λ (y : Result (Unit {0}) Refusal). KeepsOn Restarts s (done_told y) (moved s position)) (sym x.0)
    (subst (λ (o : Option Position). KeepsOn Restarts s (done_told (Ok tt)) (moved s o)) (sym x.1) (restart_drops s at some))

-- ---- each call

step_keeps : (s t : Seen) (call : Asked) (reply : Reply) → Step s call reply t → KeepsOn (Turn s.pair_capacity s.capacity call) s (told reply) t
step_keeps s t (loading a two one) reply x =
    subst (λ (y : Told). KeepsOn (Loads s.pair_capacity s.capacity a two one) s y t) (sym (ap told x.replies ∙ told_done x.outcome)) (load_keeps a two one s t x.outcome x.answer x.same)
step_keeps s t (feeding piece slots) reply x =
    subst (λ (y : Told). KeepsOn (Feeds piece slots) s y t) (sym (ap told x.replies ∙ told_walk x.outcome x.after))
    (subst (λ (n : Seen). KeepsOn (Feeds piece slots) s (fed_told x.outcome x.after) n) (sym x.leaves)
    (subst (λ (k : ℕ). KeepsOn (Feeds piece k) s (fed_told x.outcome x.after) (moved s x.position)) x.count (feed_keeps s piece x.buffer x.after x.outcome x.position x.bytes s.position refl x.answer)))
step_keeps s t restarting reply x =
    subst (λ (y : Told). KeepsOn Restarts s y t) (sym (ap told x.replies ∙ told_done x.outcome))
    (subst (λ (n : Seen). KeepsOn Restarts s (done_told x.outcome) n) (sym x.leaves) (restart_keeps s x.outcome x.position s.position refl x.answer))

step_sizes : (s t : Seen) (call : Asked) (reply : Reply) → Step s call reply t → (t.pair_capacity ≡ s.pair_capacity) × (t.capacity ≡ s.capacity)
step_sizes s t (loading a two one) reply x = load_sizes a two one s t x.outcome x.answer x.same
step_sizes s t (feeding piece slots) reply x = (ap (λ (n : Seen). n.pair_capacity) x.leaves, ap (λ (n : Seen). n.capacity) x.leaves)
step_sizes s t restarting reply x = (ap (λ (n : Seen). n.pair_capacity) x.leaves, ap (λ (n : Seen). n.capacity) x.leaves)

step_searched : (s t : Seen) (call : Asked) (reply : Reply) → Step s call reply t → (book : Book) → Keeps s book → SearchedCall call reply
step_searched s t (loading a two one) reply x book keeps = tt
step_searched s t (feeding piece slots) reply x book keeps =
    subst (SearchedCall (feeding piece slots)) (sym x.replies)
    (few_searched piece slots x.outcome x.after (feed_few s piece x.buffer x.after x.outcome x.position x.bytes s.position refl x.answer book keeps))
step_searched s t restarting reply x book keeps = tt

-- ---- every series of calls

chain_keeps : {s last : Seen} {calls : List Asked} {replies : List Reply} → Chain s calls replies last → (book : Book) → Keeps s book
    → (after : Book) × Turns s.pair_capacity s.capacity book calls (map told replies) after × AllSearched calls replies
chain_keeps Chain.ended book keeps = (book, Turns.ended, tt)
chain_keeps (Chain.then {s} {next} {last} {call} {reply} {calls} {replies} step rest) book keeps =
    let one = step_keeps s next call reply step book keeps in
    let sizes = step_sizes s next call reply step in
    let more = chain_keeps rest one.page one.keeps in (
      more.0,
      Turns.then one.answer
          (subst (λ (n : ℕ). Turns n s.capacity one.page calls (map told replies) more.0) sizes.0
          (subst (λ (n : ℕ). Turns next.pair_capacity n one.page calls (map told replies) more.0) sizes.1 more.1)),
      (step_searched s next call reply step book keeps, more.2),
    )

pub lawful_of : (first last : Seen) (calls : List Asked) (replies : List Reply) → first.position ≡ None → Chain first calls replies last → Lawful first.pair_capacity first.capacity calls replies
lawful_of first last calls replies none chain =
    let kept = chain_keeps chain blank none in
    let says : BookSays first.pair_capacity first.capacity calls (map told replies) = (kept.0, kept.1) in
    record {
      book = says;
      journeys = marks_are_the_journeys first.pair_capacity first.capacity calls (map told replies) says;
      entry = never_no_entry first.pair_capacity first.capacity calls (map told replies) says;
      searches = kept.2;
      sole = λ us other. one_answer first.pair_capacity first.capacity calls us (map told replies) other says;
    }
