-- What the calls of a scanner over two lent cards do to the books that it keeps.
use Rattle.std.proofs.Common.{◌≡◌, ℕ, ◌<◌, ◌≤◌, true, false, cond, ltb, ⊎_elim, List, [], ◌++◌, map, length, take, IfOk, Some, None, Ok, Err, Option, Result, sym, refl, ap, ◌∙◌, subst, arith}
use Rattle.std.proofs.ByRecursion.{All-take}
use Rattle.std.proofs.lemmas.Bool.{lt-ltb, le-ltb, cases_lt}
use Rattle.ternary.specs.declared.entry.Entry.{Entry}
use Rattle.ternary.specs.declared.refusal.Refusal.{Refusal}
use Rattle.ternary.specs.declared.refusal.Refusal.TheVariants.{NoEntry, NotLoaded, PieceTooLong}
use Rattle.ternary.specs.declared.words.Mark.{Mark}
use Rattle.ternary.specs.declared.words.Progress.{Progress}
use Rattle.ternary.specs.declared.words.StateCode.{StateCode}
use Rattle.ternary.specs.Marks.{marked}
use Rattle.ternary.specs.Refusals.{number, values}
use Rattle.automaton.specs.Limits.{Handed, dfa}
use Rattle.automaton.specs.Runs.{Dfa, reach, marks}
use Rattle.image.specs.Format.{Parts, decode}
use Rattle.table.specs.Acceptance.{code_of, Carries}
use Rattle.pairs.specs.declared.pair.PairEntry.{PairEntry}
use Rattle.pairs.specs.Carries as pairs
use Rattle.pair_image.specs.Format as pair
use Rattle.pair_table.specs.Acceptance as pair_table
use Rattle.pair_walk.specs.Ways.{Why, ended, full, lacking}
use Rattle.pair_walk.specs.Walks.{answer, leaves, one_byte, over, progress, with_marks, AsOneByte, Serves, Searched}
use Rattle.pair_walk.specs.Walks.{told as walk_told}
use Rattle.scanner.specs.Walks.{longest, Tells, Walked}
use Rattle.scanner.specs.Book.{Book, blank, filled, MostBytes}
use Rattle.scanner.proofs.Simulation.{Bytes, within_closed, reach-++, reach_is, code_of_lem, count_of, marks_of, most_of}
use Rattle.pair_scanner.specs.declared.lent.Position.{Position}
use Rattle.pair_scanner.specs.declared.lent.PairScanner.{PairScanner}
use Rattle.pair_scanner.specs.Book.{Told, declined, accepted, fed, report, SameCodes, LoadRefuses, Loads, declines, enters, Feeds, takes, Restarts, drops}
use Rattle.pair_scanner.specs.Scanners.{Seen, moved, at_start, Entered, reached, FeedAnswer, RestartAnswer, Stands, Keeps, done_told, fed_told, ByTheBook, KeepsOn, SearchesFew}

-- ---- restart

pub restart_loaded : (position : Option Position) (at : Position) → position ≡ Some at → RestartAnswer position (at_start at.start) (Ok tt)
restart_loaded position at some = subst (λ (p : Option Position). RestartAnswer p (at_start at.start) (Ok tt)) (sym some) (refl, refl)

-- a restart of a scanner that is not loaded
pub restart_declines : (s : Seen) (position : Option Position) → s.position ≡ position → position ≡ None → KeepsOn Restarts s (done_told (Err NotLoaded)) (moved s position)
restart_declines s position is none blank keeps = record { page = blank; answer = Restarts.unloaded; keeps = none }
restart_declines s position is none (filled a code bytes) keeps = let e = keeps.position in let z : ◌≡◌ {A = ℕ} 0 1 = cc in absurd (omega arith)

-- a restart of one that is loaded
pub restart_drops : (s : Seen) (at : Position) → s.position ≡ Some at → KeepsOn Restarts s (done_told (Ok tt)) (moved s (at_start at.start))
restart_drops s at some blank keeps = let z : ◌≡◌ {A = ℕ} 0 1 = cc in absurd (omega arith)
restart_drops s at some (filled a code bytes) keeps =
    let e = keeps.position in
    let both : at ≡ record { start = code a.start; code = code (reach a a.start bytes) } = cc in
    record {
      page = filled a code [];
      answer = drops;
      keeps = record { closed = keeps.closed; single = keeps.single; double = keeps.double; state = keeps.closed.start_is; position = ap at_start (ap (λ (p : Position). p.start) both) };
    }

-- ---- feed

-- a feed of a scanner that is loaded
pub feed_loaded : (ds : List PairEntry) (es : List Entry) (position : Option Position) (at : Position) (piece : List ℕ) (buffer after : List Mark) (r : Result Progress Refusal) (code : StateCode) → position ≡ Some at
    → r ≡ answer es ds at.code piece (length buffer) → after ≡ leaves es ds at.code piece buffer → code ≡ reached at.code r → FeedAnswer ds es position (Some (record { start = at.start; code = code })) piece buffer after r
feed_loaded ds es position at piece buffer after r code some told left is =
    subst (λ (p : Option Position). FeedAnswer ds es p (Some (record { start = at.start; code = code })) piece buffer after r) (sym some)
    (told, left, ap (λ (c : StateCode). Some (record { start = at.start; code = c })) is)

-- declined before a load
pub feed_declines : (s : Seen) (piece : List ℕ) (buffer : List Mark) → s.position ≡ None → KeepsOn (Feeds piece (length buffer)) s (fed_told (Err NotLoaded) buffer) s
feed_declines s piece buffer none blank keeps = record { page = blank; answer = Feeds.unloaded; keeps = keeps }
feed_declines s piece buffer none (filled a code bytes) keeps = let e = keeps.position in let z : ◌≡◌ {A = ℕ} 0 1 = cc in absurd (omega arith)

module _ (s : Seen) (at : Position) (some : s.position ≡ Some at) (piece : List ℕ) (buffer : List Mark) (all : Bytes piece) (a : Dfa) (code : ℕ → StateCode) (bytes : List ℕ) (stands : Stands s a code bytes) where
  at_is : at ≡ record { start = code a.start; code = code (reach a a.start bytes) }
  at_is = let e = stands.position in cc

  code_is : at.code ≡ code (reach a a.start bytes)
  code_is = ap (λ (p : Position). p.code) at_is

  start_is : at.start ≡ code a.start
  start_is = ap (λ (p : Position). p.start) at_is

  -- both cards serve the walk from there
  pub serves : Serves s.list s.pair_list at.code
  serves = record { a = a; code = code; closed = stands.closed; single = stands.single; double = stands.double; state = reach a a.start bytes; is_state = stands.state; at = code_is }

  from_state : (after : List Mark) (p : Progress) → Tells s.list at.code piece buffer after p → Tells s.list (code (reach a a.start bytes)) piece buffer after p
  from_state after p tells = subst (λ (c : StateCode). Tells s.list c piece buffer after p) code_is tells

  -- a walk that ends well is the book's feed
  walked : (after : List Mark) (p : Progress) → Walked s.list at.code piece buffer after (one_byte (length piece) p)
      → ByTheBook (Feeds piece (length buffer)) (filled a code bytes) (fed_told (Ok p) after) (moved s (Some (record { start = at.start; code = p.code })))
  walked after p w =
      let s0 = reach a a.start bytes in
      let q = one_byte (length piece) p in
      let tells = from_state after q w.tells in
      let new = take p.taken piece in
      let code_at : p.code ≡ code (reach a s0 new) = code_of_lem a code s.list stands.closed stands.single s0 stands.state piece all buffer after q tells in
      let count_at : p.marks ≡ length (marks a s0 0 new) = count_of a code s.list stands.closed stands.single s0 stands.state piece all buffer after q tells in
      let marks_at : map marked (take p.marks after) ≡ marks a s0 0 new = marks_of a code s.list stands.closed stands.single s0 stands.state piece all buffer after q tells in
      let full = w.full in
      let on = reach-++ a a.start bytes new in
      let told_is : fed_told (Ok p) after ≡ report a code s0 piece p.taken = (λ i. fed p.taken (count_at i) (marks_at i) (code_at i).0 (full i)) in
      let code_on : p.code ≡ code (reach a a.start (bytes ++ new)) = code_at ∙ ap code (sym on) in
      record {
        page = filled a code (bytes ++ new);
        answer = subst (λ (t : Told). Feeds piece (length buffer) (filled a code bytes) t (filled a code (bytes ++ new))) (sym told_is)
            (takes p.taken w.short (most_of a code s.list stands.closed stands.single s0 stands.state piece all buffer after q tells));
        keeps = record {
          closed = stands.closed;
          single = stands.single;
          double = stands.double;
          state = subst (λ n. n < a.states) (sym on) (reach_is a stands.closed s0 new stands.state (All-take (λ b. b < 256) p.taken piece all));
          position = ap (λ (c : StateCode). Some (record { start = c; code = p.code })) start_is ∙ ap (λ (c : StateCode). Some (record { start = code a.start; code = c })) code_on;
        };
      }

  -- each way in which a walk ends
  pub ended_by : (after : List Mark) (r : Result Progress Refusal) → AsOneByte s.list at.code piece buffer after r
      → ByTheBook (Feeds piece (length buffer)) (filled a code bytes) (fed_told r after) (moved s (Some (record { start = at.start; code = reached at.code r })))
  ended_by after (Ok p) w = walked after p w.0
  ended_by after (Err why) (is, long, same) =
      subst (λ (y : Refusal). ByTheBook (Feeds piece (length buffer)) (filled a code bytes) (fed_told (Err y) after) (moved s (Some (record { start = at.start; code = reached at.code (Err y) })))) (sym is)
      (record { page = filled a code bytes; answer = Feeds.too_long long; keeps = subst (λ (o : Option Position). Keeps (moved s o) (filled a code bytes)) some stands })

-- the book's feed after a load
pub feed_takes : (s : Seen) (at : Position) (piece : List ℕ) (buffer after : List Mark) (r : Result Progress Refusal) (code : StateCode) → s.position ≡ Some at → Bytes piece
    → (Serves s.list s.pair_list at.code → AsOneByte s.list at.code piece buffer after r) → code ≡ reached at.code r
    → KeepsOn (Feeds piece (length buffer)) s (fed_told r after) (moved s (Some (record { start = at.start; code = code })))
feed_takes s at piece buffer after r code some all same is blank keeps = let z : ◌≡◌ {A = ℕ} 0 1 = cc in absurd (omega arith)
feed_takes s at piece buffer after r code some all same is (filled a codes bytes) keeps =
    subst (λ (c : StateCode). ByTheBook (Feeds piece (length buffer)) (filled a codes bytes) (fed_told r after) (moved s (Some (record { start = at.start; code = c })))) (sym is)
    (ended_by s at some piece buffer all a codes bytes keeps after r (same (serves s at some piece buffer all a codes bytes keeps)))

few_of : (es : List Entry) (from : StateCode) (piece : List ℕ) (buffer after : List Mark) (r : Result Progress Refusal) → AsOneByte es from piece buffer after r → IfOk r (Searched (length piece))
few_of es from piece buffer after (Ok p) w = w.1
few_of es from piece buffer after (Err why) w = tt

-- and its searches
pub feed_searches : (s : Seen) (at : Position) (piece : List ℕ) (buffer after : List Mark) (r : Result Progress Refusal) → s.position ≡ Some at → Bytes piece
    → (Serves s.list s.pair_list at.code → AsOneByte s.list at.code piece buffer after r) → SearchesFew s piece r
feed_searches s at piece buffer after r some all same blank keeps = let z : ◌≡◌ {A = ℕ} 0 1 = cc in absurd (omega arith)
feed_searches s at piece buffer after r some all same (filled a codes bytes) keeps =
    few_of s.list at.code piece buffer after r (same (serves s at some piece buffer all a codes bytes keeps))

-- a feed that is refused, but not by 7, comes to no other code and leaves the buffer
pub feed_stays : (es : List Entry) (ds : List PairEntry) (from code : StateCode) (piece : List ℕ) (buffer after : List Mark) (r : Result Progress Refusal) → r ≡ answer es ds from piece (length buffer) → after ≡ leaves es ds from piece buffer → code ≡ reached from r
    → (why : Refusal) → r ≡ Err why → (number why ≡ 7 → ⊥) → (code ≡ from) × (after ≡ buffer)
feed_stays es ds from code piece buffer after r told left is why err other =
    ⊎_elim
    (λ (long : longest < length piece).
    let yes : ltb longest (length piece) ≡ true = lt-ltb longest (length piece) long in
    let e = over es ds from piece (length buffer) in
    let r_is : r ≡ Err PieceTooLong = sym (sym (ap (λ t. cond t (Err PieceTooLong) (walk_told e.why (progress e))) yes) ∙ sym told) in
    let b_is : after ≡ buffer = left ∙ ap (λ t. cond t buffer (with_marks e.ms buffer)) yes in
    (is ∙ ap (reached from) r_is, b_is))
    (λ (short : length piece ≤ longest).
    let none : ltb longest (length piece) ≡ false = le-ltb longest (length piece) short in
    let e = over es ds from piece (length buffer) in
    let r_is : r ≡ walk_told e.why (progress e) = told ∙ ap (λ t. cond t (Err PieceTooLong) (walk_told e.why (progress e))) none in
    absurd (other (seven e.why (progress e) why (sym r_is ∙ err))))
    (cases_lt longest (length piece))
  where
    seven : (w : Why) (p : Progress) (y : Refusal) → walk_told w p ≡ Err y → number y ≡ 7
    seven ended p y e = absurd (let z : ◌≡◌ {A = ℕ} 0 1 = cc in omega arith)
    seven full p y e = absurd (let z : ◌≡◌ {A = ℕ} 0 1 = cc in omega arith)
    seven lacking p y e = let n : NoEntry p ≡ y = cc in ap number (sym n)

-- a scanner that comes to the code that it is at
pub same_scanner : (s : PairScanner) (at : Position) (code : StateCode) → s.position ≡ Some at → code ≡ at.code → ◌≡◌ {A = PairScanner} (record { position = Some (record { start = at.start; code = code }) }) s
same_scanner s at code some is =
    ap (λ (o : Option Position). let t : PairScanner = record { position = o } in t) (ap (λ (c : StateCode). Some (record { start = at.start; code = c })) is ∙ sym some)

-- ---- load

-- a load that is refused leaves every book as it was
pub load_declines : (s : Seen) (a : Handed) (two one : List ℕ) (r : Result (Unit {0}) Refusal) (why : Refusal) → r ≡ Err why → LoadRefuses s.pair_capacity s.capacity a two one (number why) (values why)
    → KeepsOn (Loads s.pair_capacity s.capacity a two one) s (done_told r) s
load_declines s a two one r why err refuses book keeps = record {
  page = book;
  answer = subst (λ (x : Result (Unit {0}) Refusal). Loads s.pair_capacity s.capacity a two one book (done_told x) book) (sym err) (declines refuses);
  keeps = keeps;
}

-- a load that is accepted enters the automaton and the images' codes
pub load_enters : (before after : Seen) (a : Handed) (two one : List ℕ) → Entered a two one before after → KeepsOn (Loads before.pair_capacity before.capacity a two one) before accepted after
load_enters before after a two one entered book keeps = record {
  page = filled (dfa a) (code_of (decode one)) [];
  answer = enters entered.loadable;
  keeps = record {
    closed = within_closed a entered.loadable.one.within;
    single = subst (Carries (dfa a) (code_of (decode one))) (sym entered.list) entered.loadable.one.carries;
    double =
        subst (pairs.Carries (dfa a) (code_of (decode one))) (sym entered.pair_list)
        (subst (λ (cs : List StateCode). pairs.Carries (dfa a) (pair_table.code_of (record { width = (pair.decode two).width; start = (pair.decode two).start; codes = cs; entries = (pair.decode two).entries })) (pair.decode two).entries) entered.loadable.same.1 entered.loadable.two.carries);
    state = entered.loadable.one.within.start_below;
    position = entered.position;
  };
}
