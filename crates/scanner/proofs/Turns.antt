-- What the calls of a scanner do to the books that it keeps.
use Rattle.std.proofs.Common.{◌≡◌, ℕ, ◌<◌, List, [], ◌++◌, length, take, Some, None, Ok, Err, Option, Result, sym, refl, ap, ◌∙◌, subst, arith}
use Rattle.std.proofs.ByRecursion.{All-take}
use Rattle.ternary.specs.declared.entry.Entry.{Entry}
use Rattle.ternary.specs.declared.refusal.Refusal.{Refusal}
use Rattle.ternary.specs.declared.refusal.Refusal.TheVariants.{NoEntry, NotLoaded}
use Rattle.ternary.specs.declared.words.Mark.{Mark}
use Rattle.ternary.specs.declared.words.Progress.{Progress}
use Rattle.ternary.specs.declared.words.StateCode.{StateCode}
use Rattle.ternary.specs.Refusals.{number, values}
use Rattle.automaton.specs.Limits.{Handed, dfa}
use Rattle.automaton.specs.Runs.{Dfa, reach, marks}
use Rattle.image.specs.Format.{decode}
use Rattle.table.specs.Acceptance.{code_of, Carries}
use Rattle.scanner.specs.Walks.{Outcome, Tells, Walked}
use Rattle.scanner.proofs.OneAnswer.{Ends, well, unmatched, too_long, ends}
use Rattle.scanner.specs.declared.scanner.Position.{Position}
use Rattle.scanner.specs.declared.scanner.Scanner.{Scanner}
use Rattle.scanner.specs.Book.{Told, accepted, blank, filled, report, LoadRefuses, Loads, declines, enters, Feeds, takes, Restarts, drops}
use Rattle.scanner.specs.Scanners.{Seen, at_start, Entered, reached, FeedAnswer, RestartAnswer, Stands, Keeps, done_told, fed_told, ByTheBook, KeepsOn}
use Rattle.scanner.proofs.Simulation.{Bytes, within_closed, reach-++, reach_is, code_of_lem, count_of, marks_of, most_of, has-entry}

-- what is to be seen of a scanner that stands elsewhere
abbrev pub moved : Seen → Option Position → Seen
moved s next = record { listed = s.listed; capacity = s.capacity; position = next }

-- ---- restart

-- a restart goes back to the start
pub restart_loaded : (position : Option Position) (at : Position) → position ≡ Some at → RestartAnswer position (at_start at.start) (Ok tt)
restart_loaded position at some = subst (λ (p : Option Position). RestartAnswer p (at_start at.start) (Ok tt)) (sym some) (refl, refl)

-- a restart of a scanner that is not loaded
pub restart_declines : (s : Seen) → s.position ≡ None → KeepsOn Restarts s (done_told (Err NotLoaded)) s
restart_declines s none blank keeps = record { page = blank; answer = Restarts.unloaded; keeps = keeps }
restart_declines s none (filled a code bytes) keeps = let e = keeps.position in let z : ◌≡◌ {A = ℕ} 0 1 = cc in absurd (omega arith)

-- a restart of one that is loaded
pub restart_drops : (s : Seen) (at : Position) → s.position ≡ Some at → KeepsOn Restarts s (done_told (Ok tt)) (moved s (at_start at.start))
restart_drops s at some blank keeps = let z : ◌≡◌ {A = ℕ} 0 1 = cc in absurd (omega arith)
restart_drops s at some (filled a code bytes) keeps =
    let e = keeps.position in
    let both : at ≡ record { start = code a.start; code = code (reach a a.start bytes) } = cc in
    record {
      page = filled a code [];
      answer = drops;
      keeps = record { closed = keeps.closed; carries = keeps.carries; state = keeps.closed.start_is; position = ap at_start (ap (λ (p : Position). p.start) both) };
    }

-- ---- feed

-- a feed of a scanner that is loaded
pub feed_loaded : (listed : List Entry) (position : Option Position) (at : Position) (piece : List ℕ) (buffer after : List Mark) (r : Result Progress Refusal) (code : StateCode) → position ≡ Some at
    → Outcome listed at.code piece buffer after r → code ≡ reached at.code r → FeedAnswer listed position (Some (record { start = at.start; code = code })) piece buffer after r
feed_loaded listed position at piece buffer after r code some outcome is =
    subst (λ (p : Option Position). FeedAnswer listed p (Some (record { start = at.start; code = code })) piece buffer after r) (sym some) (outcome, ap (λ (c : StateCode). Some (record { start = at.start; code = c })) is)

-- a feed that is refused, but not by 7, comes to no other code and leaves the buffer
pub feed_stays : (listed : List Entry) (from code : StateCode) (piece : List ℕ) (buffer after : List Mark) (r : Result Progress Refusal) → Outcome listed from piece buffer after r → code ≡ reached from r
    → (why : Refusal) → r ≡ Err why → (number why ≡ 7 → ⊥) → (code ≡ from) × (after ≡ buffer)
feed_stays listed from code piece buffer after r outcome is why err other = stays (ends listed from piece buffer after r outcome) is err
  where
    stays : {later : List Mark} {q : Result Progress Refusal} → Ends listed from piece buffer later q → code ≡ reached from q → q ≡ Err why → (code ≡ from) × (later ≡ buffer)
    stays (well w) at e = let z : ◌≡◌ {A = ℕ} 0 1 = cc in absurd (omega arith)
    stays (unmatched {p = p} w) at e = let n : NoEntry p ≡ why = cc in absurd (other (ap number (sym n)))
    stays (too_long long same) at e = (at, same)

-- a scanner that comes to the code that it is at
pub same_scanner : {C : Type 0} (s : Scanner C) (at : Position) (code : StateCode) → s.position ≡ Some at → code ≡ at.code → ◌≡◌ {A = Scanner C} (record { card = s.card; position = Some (record { start = at.start; code = code }) }) s
same_scanner {C} s at code some is =
    ap (λ (o : Option Position). let t : Scanner C = record { card = s.card; position = o } in t) (ap (λ (c : StateCode). Some (record { start = at.start; code = c })) is ∙ sym some)

-- declined before a load
pub feed_declines : (s : Seen) (piece : List ℕ) (buffer : List Mark) → s.position ≡ None → KeepsOn (Feeds piece (length buffer)) s (fed_told (Err NotLoaded) buffer) s
feed_declines s piece buffer none blank keeps = record { page = blank; answer = Feeds.unloaded; keeps = keeps }
feed_declines s piece buffer none (filled a code bytes) keeps = let e = keeps.position in let z : ◌≡◌ {A = ℕ} 0 1 = cc in absurd (omega arith)

module _ (s : Seen) (at : Position) (some : s.position ≡ Some at) (piece : List ℕ) (buffer : List Mark) (all : Bytes piece) (a : Dfa) (code : ℕ → StateCode) (bytes : List ℕ) (stands : Stands s a code bytes) where
  here : ℕ
  here = reach a a.start bytes

  at_is : at ≡ record { start = code a.start; code = code (reach a a.start bytes) }
  at_is = let e = stands.position in cc

  code_is : at.code ≡ code (reach a a.start bytes)
  code_is = ap (λ (p : Position). p.code) at_is

  start_is : at.start ≡ code a.start
  start_is = ap (λ (p : Position). p.start) at_is

  -- from the code of the state reached
  from_state : (after : List Mark) (p : Progress) → Tells s.listed at.code piece buffer after p → Tells s.listed (code (reach a a.start bytes)) piece buffer after p
  from_state after p tells = subst (λ (c : StateCode). Tells s.listed c piece buffer after p) code_is tells

  -- a walk that ends well is the book's feed
  walked : (after : List Mark) (p : Progress) → Walked s.listed at.code piece buffer after p
      → ByTheBook (Feeds piece (length buffer)) (filled a code bytes) (fed_told (Ok p) after) (moved s (Some (record { start = at.start; code = p.code })))
  walked after p w =
      let s0 = reach a a.start bytes in
      let tells = from_state after p w.tells in
      let new = take p.taken piece in
      let code_at_lem : p.code ≡ code (reach a s0 new) = code_of_lem a code s.listed stands.closed stands.carries s0 stands.state piece all buffer after p tells in
      let count_at : p.marks ≡ length (marks a s0 0 new) = count_of a code s.listed stands.closed stands.carries s0 stands.state piece all buffer after p tells in
      let marks_at = marks_of a code s.listed stands.closed stands.carries s0 stands.state piece all buffer after p tells in
      let full = w.full in
      let searched = w.tells.searched in
      let on = reach-++ a a.start bytes new in
      let told_is : fed_told (Ok p) after ≡ report a code s0 piece p.taken = cc in
      let code_on : p.code ≡ code (reach a a.start (bytes ++ new)) = code_at_lem ∙ ap code (sym on) in
      record {
        page = filled a code (bytes ++ new);
        answer = subst (λ (t : Told). Feeds piece (length buffer) (filled a code bytes) t (filled a code (bytes ++ new))) (sym told_is)
            (takes p.taken w.short (most_of a code s.listed stands.closed stands.carries s0 stands.state piece all buffer after p tells));
        keeps = record {
          closed = stands.closed;
          carries = stands.carries;
          state = subst (λ n. n < a.states) (sym on) (reach_is a stands.closed s0 new stands.state (All-take (λ b. b < 256) p.taken piece all));
          position = ap (λ (c : StateCode). Some (record { start = c; code = p.code })) start_is ∙ ap (λ (c : StateCode). Some (record { start = code a.start; code = c })) code_on;
        };
      }

  -- each way in which a walk ends
  ended : {after : List Mark} {r : Result Progress Refusal} → Ends s.listed at.code piece buffer after r
      → ByTheBook (Feeds piece (length buffer)) (filled a code bytes) (fed_told r after) (moved s (Some (record { start = at.start; code = reached at.code r })))
  ended {after} (well {p = p} w) = walked after p w
  ended {after} (unmatched {p = p} w) =
      absurd (has-entry a code s.listed stands.closed stands.carries (reach a a.start bytes) stands.state piece all buffer after p (from_state after p w.tells)
      w.entry)
  ended (too_long long same) = record { page = filled a code bytes; answer = Feeds.too_long long; keeps = subst (λ (o : Option Position). Keeps (moved s o) (filled a code bytes)) some stands }

-- the book's feed after a load
pub feed_takes : (s : Seen) (at : Position) (piece : List ℕ) (buffer after : List Mark) (r : Result Progress Refusal) (code : StateCode) → s.position ≡ Some at → Bytes piece
    → Outcome s.listed at.code piece buffer after r → code ≡ reached at.code r
    → KeepsOn (Feeds piece (length buffer)) s (fed_told r after) (moved s (Some (record { start = at.start; code = code })))
feed_takes s at piece buffer after r code some all outcome is blank keeps = let z : ◌≡◌ {A = ℕ} 0 1 = cc in absurd (omega arith)
feed_takes s at piece buffer after r code some all outcome is (filled a codes bytes) keeps =
    subst (λ (c : StateCode). ByTheBook (Feeds piece (length buffer)) (filled a codes bytes) (fed_told r after) (moved s (Some (record { start = at.start; code = c })))) (sym is)
    (ended s at some piece buffer all a codes bytes keeps (ends s.listed at.code piece buffer after r outcome))

-- ---- load

-- a load that is refused leaves every book as it was
pub load_declines : (s : Seen) (a : Handed) (image : List ℕ) (r : Result (Unit {0}) Refusal) (why : Refusal) → r ≡ Err why → LoadRefuses s.capacity a image (number why) (values why)
    → KeepsOn (Loads s.capacity a image) s (done_told r) s
load_declines s a image r why err refuses book keeps = record {
  page = book;
  answer = subst (λ (x : Result (Unit {0}) Refusal). Loads s.capacity a image book (done_told x) book) (sym err) (declines refuses);
  keeps = keeps;
}

-- a load that is accepted enters the automaton and the image's codes
pub load_enters : (before after : Seen) (a : Handed) (image : List ℕ) → Entered a image before after → KeepsOn (Loads before.capacity a image) before accepted after
load_enters before after a image entered book keeps = record {
  page = filled (dfa a) (code_of (decode image)) [];
  answer = enters entered.acceptable entered.room;
  keeps = record {
    closed = within_closed a entered.acceptable.within;
    carries = subst (Carries (dfa a) (code_of (decode image))) (sym entered.listed) entered.acceptable.carries;
    state = entered.acceptable.within.start_below;
    position = entered.position;
  };
}
