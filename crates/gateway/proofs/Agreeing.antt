-- Each call keeps the record of each coach as calls and answers show it.
use Rattle.std.proofs.Common.{◌≡◌, ℕ, zero, suc, ◌+◌, ◌%◌, ◌<◌, ◌≤◌, min, true, false, Bool, cond, ◌&&◌, eqb, inl, inr, List, length, take, drop, Some, None, Option, Result, is_some, unwrap_or, sym, refl, ap, ◌∙◌, subst, arith}
use Rattle.std.specs.List.{AllByRecursion}
use Rattle.std.proofs.Math.ListN.{set}
use Rattle.std.proofs.lemmas.Bool.{false≢true}
use Rattle.std.proofs.lemmas.Bool.Decides.{eqb_tells}
use Rattle.std.proofs.lemmas.List.{length-set}
use Rattle.ternary.specs.declared.refusal.Refusal.{Refusal}
use Rattle.ternary.specs.declared.words.Mark.{Mark}
use Rattle.ternary.specs.declared.words.Progress.{Progress}
use Rattle.ternary.specs.declared.words.StateCode.{StateCode}
use Rattle.automaton.specs.Limits.{Handed, dfa}
use Rattle.image.specs.Format.{decode}
use Rattle.table.specs.Acceptance.{code_of}
use Rattle.scanner.specs.Scanners.{fed_told}
use Rattle.scanner.specs.Walks.{Outcome}
use Rattle.scanner.proofs.Simulation.{within_closed}
use Rattle.gateway.specs.declared.session.Session.{Session}
use Rattle.gateway.specs.Sessions.{closed, opened, posted, session_of, waits, part_end, piece, walked}
use Rattle.gateway.specs.Gateways.{Seen, IsBlank, IsLoaded, Asked, loading, opening, posting, turning, closing, Reply, Loads, declines, loads, Opens, opens, Posts, occupied, posts, Closes, closes, GoodQuota, Turns, unfit, outside, rests, serves, Step}
use Rattle.gateway.specs.Laws.{Event, Chain, ended, then, Journal, blank_journal, posted_journal, fed_journal, if_accepted, if_served, entered, entered_all, journal, MarksAreOwn, TookAll, TakesItsPart, FirstTakesItsPart, EachTakesItsPart}
use Rattle.gateway.proofs.Serving.{Agrees, own_marks, served_agrees}
use Rattle.gateway.proofs.Tables.{set_same, set_other}

-- the table has a record for each coach, and one coach's agrees with its journal
pub record Kept (coach : ℕ) (j : Journal) (s : Seen) : Type 0 where
  pub many : length s.sessions ≡ 64
  pub agrees : Agrees j (session_of s.sessions coach) s.listed s.start

-- a record written in the table, and the turn's place
abbrev pub wrote : Seen → ℕ → Session → ℕ → Seen
wrote s d x next = record { listed = s.listed; capacity = s.capacity; start = s.start; sessions = set s.sessions d x; next = next }

pub first_true : (a b : Bool) → (a && b) ≡ true → a ≡ true
first_true true b e = refl
first_true false b e = e

pub value_in : (o : Option StateCode) → is_some o ≡ true → (k : StateCode) × (o ≡ Some k)
value_in None e = absurd (false≢true e)
value_in (Some k) e = (k, refl)

-- serving a coach, by its own journal
pub serving : (d : ℕ) (j : Journal) (s : Seen) → Kept d j s → (buffer : List ℕ) (before after : List Mark) (quota : ℕ) (r : Result Progress Refusal) → IsLoaded s → GoodQuota quota (length before)
    → waits (session_of s.sessions d) ≡ true → part_end (session_of s.sessions d) ≤ length buffer → AllByRecursion (λ b. b < 256) buffer
    → Outcome s.listed (session_of s.sessions d).code (piece (session_of s.sessions d) buffer quota) before after r
    → Agrees (fed_journal j buffer (fed_told r after)) (walked (session_of s.sessions d) r) s.listed s.start × TookAll (min quota j.waiting) (fed_told r after)
serving d j s kept buffer before after quota r some good busy within bytes outcome =
    let x = session_of s.sessions d in
    let k = value_in s.start some in
    let own : Agrees j x s.listed (Some k.0) = subst (λ (o : Option StateCode). Agrees j x s.listed o) k.1 kept.agrees in
    let done = served_agrees j x s.listed k.0 own (first_true x.is_open _ busy) buffer bytes quota before good within after r outcome in
    (subst (λ (o : Option StateCode). Agrees (fed_journal j buffer (fed_told r after)) (walked x r) s.listed o) (sym k.1) done.0, done.1)

module _ (coach : ℕ) (j : Journal) (s : Seen) (kept : Kept coach j s) where
  -- where nothing is entered
  either_way : (b : Bool) → Kept coach (cond b j j) s
  either_way true = kept
  either_way false = kept

  -- one coach's record written, this one's or another's
  written : (own : Journal) (d : ℕ) (x : Session) (next : ℕ) → d < 64 → (d ≡ coach → Agrees own x s.listed s.start) → Kept coach (cond (eqb d coach) own j) (wrote s d x next)
  written own d x next below agrees =
      elim (eqb_tells d coach) [
        | inl h ↦
            let there : session_of (set s.sessions d x) coach ≡ x = subst (λ n. session_of (set s.sessions d x) n ≡ x) h.1 (set_same s.sessions d x kept.many below) in
            subst (λ (b : Bool). Kept coach (cond b own j) (wrote s d x next)) (sym h.0)
            (record { many = length-set s.sessions d x ∙ kept.many; agrees = subst (λ (y : Session). Agrees own y s.listed s.start) (sym there) (agrees h.1) })
        | inr h ↦
            subst (λ (b : Bool). Kept coach (cond b own j) (wrote s d x next)) (sym h.0)
            (record {
              many = length-set s.sessions d x ∙ kept.many;
              agrees = subst (λ (y : Session). Agrees j y s.listed s.start) (sym (set_other s.sessions d coach x (λ e. h.1 (sym e)))) kept.agrees;
            })
      ]

  -- a loaded gateway is not one that is not
  not_unloaded : {P : Type 0} (k : StateCode) → s.start ≡ Some k → is_some s.start ≡ false → P
  not_unloaded k some none = absurd (false≢true (sym none ∙ ap is_some some))

  loads_keep : (a : Handed) (image : List ℕ) {reply : Reply} {next : Seen} → Loads a image s reply next → Kept coach (if_accepted reply (blank_journal (Some (dfa a)) false) j) next
  loads_keep a image (declines why) = kept
  loads_keep a image (loads ok room all) = record {
    many = all.count;
    agrees = subst (λ (y : Session). Agrees (blank_journal (Some (dfa a)) false) y (decode image).entries (Some (code_of (decode image) a.start))) (sym (all.each coach)) (record {
      is_open = refl;
      place = refl;
      waiting = refl;
      shut = λ e. refl;
      unloaded = λ e. absurd (false≢true (sym e));
      stands = λ k e. record {
        a = dfa a;
        code = code_of (decode image);
        loaded = refl;
        closed = within_closed a ok.within;
        carries = ok.carries;
        start = sym (ap (λ o. unwrap_or o k) e);
        state = ok.within.start_below;
        at = λ h. absurd (false≢true h);
        marked = refl;
      };
    });
  }

  opens_keep : (d : ℕ) {reply : Reply} {next : Seen} → Opens d s reply next → Kept coach (cond (eqb d coach) (if_accepted reply (blank_journal j.loaded true) j) j) next
  opens_keep d (Opens.unloaded none) = either_way (eqb d coach)
  opens_keep d (Opens.misnamed some bad) = either_way (eqb d coach)
  opens_keep d (opens {start = start} some shut) =
      written (blank_journal j.loaded true) d (opened start) s.next shut.below (λ same. record {
        is_open = refl;
        place = refl;
        waiting = refl;
        shut = λ e. refl;
        unloaded = not_unloaded start some;
        stands = λ k e.
            let st = kept.agrees.stands k e in
            record {
              a = st.a;
              code = st.code;
              loaded = st.loaded;
              closed = st.closed;
              carries = st.carries;
              start = st.start;
              state = st.closed.start_is;
              at = λ h. ap (λ o. unwrap_or o start) (sym some ∙ e) ∙ st.start;
              marked = refl;
            };
      })

  posts_keep : (d place waiting : ℕ) {reply : Reply} {next : Seen} → Posts d place waiting s reply next → Kept coach (cond (eqb d coach) (if_accepted reply (posted_journal j place waiting) j) j) next
  posts_keep d place waiting (Posts.unloaded none) = either_way (eqb d coach)
  posts_keep d place waiting (Posts.misnamed some shut) = either_way (eqb d coach)
  posts_keep d place waiting (occupied some shown busy) = either_way (eqb d coach)
  posts_keep d place waiting (posts some shown free) =
      written (posted_journal j place waiting) d (posted (session_of s.sessions d) place waiting) s.next shown.below (λ same.
      let here : (session_of s.sessions coach).is_open ≡ true = subst (λ n. (session_of s.sessions n).is_open ≡ true) same shown.flag in
      subst (λ n. Agrees (posted_journal j place waiting) (posted (session_of s.sessions n) place waiting) s.listed s.start) (sym same) (record {
        is_open = kept.agrees.is_open;
        place = refl;
        waiting = refl;
        shut = λ e. absurd (false≢true (sym e ∙ (sym kept.agrees.is_open ∙ here)));
        unloaded = kept.agrees.unloaded;
        stands = λ k e.
            let st = kept.agrees.stands k e in
            record { a = st.a; code = st.code; loaded = st.loaded; closed = st.closed; carries = st.carries; start = st.start; state = st.state; at = st.at; marked = st.marked };
      }))

  closes_keep : (d : ℕ) {reply : Reply} {next : Seen} → Closes d s reply next → Kept coach (cond (eqb d coach) (if_accepted reply (blank_journal j.loaded false) j) j) next
  closes_keep d (Closes.unloaded none) = either_way (eqb d coach)
  closes_keep d (Closes.misnamed some shut) = either_way (eqb d coach)
  closes_keep d (closes some shown) =
      written (blank_journal j.loaded false) d closed s.next shown.below (λ same. record {
        is_open = refl;
        place = refl;
        waiting = refl;
        shut = λ e. refl;
        unloaded = λ none. absurd (false≢true (sym none ∙ some));
        stands = λ k e.
            let st = kept.agrees.stands k e in
            record { a = st.a; code = st.code; loaded = st.loaded; closed = st.closed; carries = st.carries; start = st.start; state = st.closed.start_is; at = λ h. absurd (false≢true h); marked = refl };
      })

  turns_keep : (buffer : List ℕ) (before : List Mark) (quota : ℕ) {reply : Reply} {after : List Mark} {next : Seen} → Turns buffer before quota s reply after next → Kept coach (if_served coach buffer reply j) next
  turns_keep buffer before quota (Turns.unloaded none) = kept
  turns_keep buffer before quota (unfit some bad) = kept
  turns_keep buffer before quota (outside some good comes out) = kept
  turns_keep buffer before quota (rests some good none) = kept
  turns_keep buffer before quota (serves {coach = d} {after = after} r some good comes within bytes outcome) =
      let below : d < 64 = omega (arith, comes.at) in
      written (fed_journal j buffer (fed_told r after)) d (walked (session_of s.sessions d) r) ((d + 1) % 64) below (λ same.
      (serving d j s (subst (λ n. Kept n j s) (sym same) kept) buffer before after quota r some good comes.waiting within bytes outcome).0)

  -- so each call
  pub step_keeps : (asked : Asked) (reply : Reply) (next : Seen) → Step s asked reply next → Kept coach (entered coach j asked reply) next
  step_keeps (loading a image) reply next step = loads_keep a image step
  step_keeps (opening d) reply next step = opens_keep d step
  step_keeps (posting d place waiting) reply next step = posts_keep d place waiting step
  step_keeps (turning buffer slots quota) reply next step = turns_keep buffer step.before quota step.turns
  step_keeps (closing d) reply next step = closes_keep d step

-- so any series of calls
pub chain_keeps : (coach : ℕ) (j : Journal) {s last : Seen} {events : List Event} → Chain s events last → Kept coach j s → Kept coach (entered_all coach j events) last
chain_keeps coach j ended kept = kept
chain_keeps coach j (then {s = s} {next = next} {asked = asked} {reply = reply} step rest) kept =
    chain_keeps coach (entered coach j asked reply) rest (step_keeps coach j s kept asked reply next step)

-- the first calls of a series, and the others
pub chain_cut : (n : ℕ) {s last : Seen} {events : List Event} → Chain s events last → (mid : Seen) × Chain s (take n events) mid × Chain mid (drop n events) last
chain_cut zero {s} {last} chain = (s, ended, chain)
chain_cut (suc n) (ended {s}) = (s, ended, ended)
chain_cut (suc n) (then step rest) = let r = chain_cut n rest in (r.0, then step r.1, r.2)

-- a gateway that is new
pub blank_kept : (coach : ℕ) (s : Seen) → IsBlank s → Kept coach (blank_journal None false) s
blank_kept coach s blank = record {
  many = blank.sessions.count;
  agrees = subst (λ (y : Session). Agrees (blank_journal None false) y s.listed s.start) (sym (blank.sessions.each coach)) (record {
    is_open = refl;
    place = refl;
    waiting = refl;
    shut = λ e. refl;
    unloaded = λ e. (refl, refl);
    stands = λ k e. absurd (false≢true (ap is_some (sym blank.start ∙ e)));
  });
}

-- the law on marks
pub marks_are_own : (s last : Seen) (events : List Event) → IsBlank s → Chain s events last → MarksAreOwn events
marks_are_own s last events blank chain coach n =
    let cut = chain_cut n chain in
    let kept = chain_keeps coach (blank_journal None false) cut.1 (blank_kept coach s blank) in
    own_marks (journal coach (take n events)) (session_of cut.0.sessions coach) cut.0.listed cut.0.start kept.agrees

-- the part that a turn takes
turn_takes : (s : Seen) (journals : ℕ → Journal) → ((coach : ℕ) → Kept coach (journals coach) s) → (buffer : List ℕ) (slots quota : ℕ) (before : List Mark) {reply : Reply} {after : List Mark} {next : Seen}
    → Turns buffer before quota s reply after next → TakesItsPart journals (turning buffer slots quota) reply
turn_takes s journals kept buffer slots quota before (Turns.unloaded none) = tt
turn_takes s journals kept buffer slots quota before (unfit some bad) = tt
turn_takes s journals kept buffer slots quota before (outside some good comes out) = tt
turn_takes s journals kept buffer slots quota before (rests some good none) = tt
turn_takes s journals kept buffer slots quota before (serves {coach = d} {after = after} r some good comes within bytes outcome) =
    (serving d (journals d) s (kept d) buffer before after quota r some good comes.waiting within bytes outcome).1

step_takes : (s : Seen) (journals : ℕ → Journal) → ((coach : ℕ) → Kept coach (journals coach) s) → (asked : Asked) (reply : Reply) (next : Seen) → Step s asked reply next → TakesItsPart journals asked reply
step_takes s journals kept (loading a image) reply next step = tt
step_takes s journals kept (opening d) reply next step = tt
step_takes s journals kept (posting d place waiting) reply next step = tt
step_takes s journals kept (turning buffer slots quota) reply next step = turn_takes s journals kept buffer slots quota step.before step.turns
step_takes s journals kept (closing d) reply next step = tt

first_takes : (journals : ℕ → Journal) {s last : Seen} {events : List Event} → Chain s events last → ((coach : ℕ) → Kept coach (journals coach) s) → FirstTakesItsPart journals events
first_takes journals ended kept = tt
first_takes journals (then {s = s} {next = next} {asked = asked} {reply = reply} step rest) kept = step_takes s journals kept asked reply next step

-- the law on what turns take
pub each_takes : (s last : Seen) (events : List Event) → IsBlank s → Chain s events last → EachTakesItsPart events
each_takes s last events blank chain n =
    let cut = chain_cut n chain in
    first_takes (λ coach. journal coach (take n events)) cut.2 (λ coach. chain_keeps coach (blank_journal None false) cut.1 (blank_kept coach s blank))
