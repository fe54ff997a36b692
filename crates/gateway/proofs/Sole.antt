-- A call has one answer, and leaves one thing behind.
use Rattle.std.proofs.Common.{◌≡◌, ℕ, ◌+◌, ◌%◌, ◌<◌, ◌≤◌, true, false, Bool, inl, inr, List, ◌∷◌, ◌++◌, map, length, take, drop, Some, None, Ok, Err, Option, Result, is_some, sym, refl, ap, ◌∙◌, subst, arith}
use Rattle.std.proofs.lemmas.Bool.{false≢true, cases_lt, cases_eq}
use Rattle.std.proofs.lemmas.List.{ext_get_or, take_at, length-map}
use Rattle.ternary.specs.declared.entry.Entry.{Entry}
use Rattle.ternary.specs.declared.refusal.Refusal.{Refusal}
use Rattle.ternary.specs.declared.words.Mark.{Mark}
use Rattle.ternary.specs.declared.words.Progress.{Progress}
use Rattle.ternary.specs.declared.words.StateCode.{StateCode}
use Rattle.ternary.specs.Marks.{Marked, marked, held}
use Rattle.automaton.specs.Limits.{Handed}
use Rattle.image.specs.Format.{decode}
use Rattle.table.specs.Acceptance.{code_of}
use Rattle.table.proofs.OneVerdict.{not_refused, one_refusal}
use Rattle.scanner.specs.Book.{fed, unchecked, too_small}
use Rattle.scanner.specs.Scanners.{fed_told}
use Rattle.scanner.specs.Walks.{Tells, Outcome, TakesMost}
use Rattle.scanner.proofs.OneAnswer.{only}
use Rattle.scanner.proofs.Simulation.{marked-held}
use Rattle.gateway.specs.declared.session.Session.{Session}
use Rattle.gateway.specs.Sessions.{closed, opened, session_of, AllClosed, waits, part_end, Comes, NoneWaits, piece}
use Rattle.gateway.specs.Gateways.{Seen, with_session, Asked, loading, opening, posting, turning, closing, Reply, refused, served, Loads, declines, loads, Opens, opens, Posts, occupied, posts, Closes, closes, GoodQuota, after_serving, Turns, unfit, outside, rests, serves, Step}
use Rattle.gateway.specs.Laws.{Event, Chain, ended, then}

-- ---- a walk over the same piece with as many slots tells the same, whatever they held

-- the marks in the buffer are those of the answer
told_marks : (es : List Entry) (from : StateCode) (piece : List ℕ) (buffer after : List Mark) (p : Progress) (tells : Tells es from piece buffer after p) → map marked (take p.marks after) ≡ tells.ms
told_marks es from piece buffer after p tells =
    ap (λ n. map marked (take n after)) tells.count
    ∙ ap (λ (xs : List Mark). map marked (take (length tells.ms) xs)) tells.written
    ∙ ap (map marked) (take_at (map held tells.ms) (drop (length tells.ms) buffer) (length tells.ms) (length-map tells.ms held))
    ∙ marked-held tells.ms

module _ (es : List Entry) (from : StateCode) (piece : List ℕ) (buffer other : List Mark) (same : length other ≡ length buffer) where
  -- the same answer, with the marks in this buffer
  tells_here : (later : List Mark) (p : Progress) (tells : Tells es from piece other later p) → Tells es from piece buffer (map held tells.ms ++ drop (length tells.ms) buffer) p
  tells_here later p tells = record {
    ms = tells.ms;
    takes = subst (λ n. TakesMost es from piece n p.taken p.code tells.ms) same tells.takes;
    count = tells.count;
    written = refl;
    searched = tells.searched;
  }

  told_here : (later : List Mark) (p : Progress) (tells : Tells es from piece other later p) → fed_told (Ok p) later ≡ fed_told (Ok p) (map held tells.ms ++ drop (length tells.ms) buffer)
  unfolding tells_here
  told_here later p tells =
      ap (λ (ms : List Marked). fed p.taken p.marks ms p.code.0 p.marks_full p.searches)
      (told_marks es from piece other later p tells ∙ sym (told_marks es from piece buffer (map held tells.ms ++ drop (length tells.ms) buffer) p (tells_here later p tells)))

  outcome_here : (later : List Mark) (r : Result Progress Refusal) → Outcome es from piece other later r → (here : List Mark) × Outcome es from piece buffer here r × (fed_told r later ≡ fed_told r here)
  outcome_here later (Ok p) w = (
    map held w.tells.ms ++ drop (length w.tells.ms) buffer,
    record { short = w.short; tells = tells_here later p w.tells; entry = w.entry; full = w.full },
    told_here later p w.tells,
  )
  outcome_here later (Err why) (inl x) = (buffer, inl (x.0, x.1, refl), refl)
  outcome_here later (Err why) (inr x) = (
    map held x.2.tells.ms ++ drop (length x.2.tells.ms) buffer,
    inr (x.0, x.1, record { short = x.2.short; tells = tells_here later x.0 x.2.tells; entry = x.2.entry; full = x.2.full }),
    refl,
  )

  -- so two such walks
  pub walks_one : (after later : List Mark) (r q : Result Progress Refusal) → Outcome es from piece buffer after r → Outcome es from piece other later q → (r ≡ q) × (fed_told r after ≡ fed_told q later)
  walks_one after later r q x y =
      let here = outcome_here later q y in
      let both : (q ≡ r) × (here.0 ≡ after) = only es from piece buffer after r x q here.0 here.1 in
      (sym both.0, (λ i. fed_told (sym both.0 i) (sym both.1 i)) ∙ sym here.2)

-- ---- who comes next

comes_one : (xs : List Session) (from c d : ℕ) → Comes xs from c → Comes xs from d → c ≡ d
comes_one xs from c d x y =
    elim (cases_eq x.steps y.steps) [
      | inl same ↦ x.at ∙ ap (λ n. (from + n) % 64) same ∙ sym y.at
      | inr other ↦
          elim (cases_lt x.steps y.steps) [
            | inl less ↦ absurd (false≢true (sym (subst (λ n. waits (session_of xs n) ≡ false) (sym x.at) (y.none_before x.steps less)) ∙ x.waiting))
            | inr more ↦
                let less : y.steps < x.steps = omega (arith, other) in
                absurd (false≢true (sym (subst (λ n. waits (session_of xs n) ≡ false) (sym y.at) (x.none_before y.steps less)) ∙ y.waiting))
          ]
    ]

comes_or_none : {P : Type 0} (xs : List Session) (from c : ℕ) → Comes xs from c → NoneWaits xs → P
comes_or_none xs from c x none = absurd (false≢true (sym (none c (omega (arith, x.at))) ∙ x.waiting))

-- a table in which no coach is open is one table
closed_one : (xs ys : List Session) → AllClosed xs → AllClosed ys → xs ≡ ys
closed_one xs ys x y = ext_get_or closed xs ys (x.count ∙ sym y.count) (λ i h. x.each i ∙ sym (y.each i))

-- the code of a start state, or another
abbrev start_or : StateCode → Option StateCode → StateCode
start_or k None = k
start_or k (Some l) = l

-- what an accepted load leaves
abbrev pub filled_with : List Entry → ℕ → StateCode → List Session → Seen
filled_with listed capacity start sessions = record { listed = listed; capacity = capacity; start = Some start; sessions = sessions; next = 0 }

-- ---- each call

-- the same reply, and the same left
abbrev pub Alike : Reply → Seen → Reply → Seen → Type 0
Alike r u q v = (r ≡ q) × (u ≡ v)

both_ways : {P : Type 0} (b : Bool) → b ≡ false → b ≡ true → P
both_ways b off on = absurd (false≢true (sym off ∙ on))

module _ (s : Seen) where
  pub loads_one : (a : Handed) (image : List ℕ) {r q : Reply} {u v : Seen} → Loads a image s r u → Loads a image s q v → Alike r u q v
  loads_one a image (declines {n = n} {vs = vs} (unchecked why)) (declines {n = m} {vs = ws} (unchecked again)) =
      let same = one_refusal a image n m vs ws why again in
      ((λ i. refused (same.0 i) (same.1 i)), refl)
  loads_one a image (declines {n = n} {vs = vs} (unchecked why)) (declines (too_small ok small)) = absurd (not_refused a image n vs ok why)
  loads_one a image (declines {n = n} {vs = vs} (unchecked why)) (loads ok room all) = absurd (not_refused a image n vs ok why)
  loads_one a image (declines (too_small ok small)) (declines {n = n} {vs = vs} (unchecked why)) = absurd (not_refused a image n vs ok why)
  loads_one a image (declines (too_small ok small)) (declines (too_small also few)) = (refl, refl)
  loads_one a image (declines (too_small ok small)) (loads also room all) = absurd (omega arith)
  loads_one a image (loads ok room all) (declines {n = n} {vs = vs} (unchecked why)) = absurd (not_refused a image n vs ok why)
  loads_one a image (loads ok room all) (declines (too_small also small)) = absurd (omega arith)
  loads_one a image (loads {sessions = xs} ok room all) (loads {sessions = ys} also more each) =
      (refl, ap (λ (zs : List Session). filled_with (decode image).entries s.capacity (code_of (decode image) a.start) zs) (closed_one xs ys all each))

  opens_one : (d : ℕ) {r q : Reply} {u v : Seen} → Opens d s r u → Opens d s q v → Alike r u q v
  opens_one d (Opens.unloaded none) (Opens.unloaded again) = (refl, refl)
  opens_one d (Opens.unloaded none) (Opens.misnamed some bad) = both_ways _ none some
  opens_one d (Opens.unloaded none) (opens some shut) = both_ways _ none (ap is_some some)
  opens_one d (Opens.misnamed some bad) (Opens.unloaded none) = both_ways _ none some
  opens_one d (Opens.misnamed some bad) (Opens.misnamed again also) = (refl, refl)
  opens_one d (Opens.misnamed some bad) (opens again shut) = absurd (bad shut)
  opens_one d (opens some shut) (Opens.unloaded none) = both_ways _ none (ap is_some some)
  opens_one d (opens some shut) (Opens.misnamed again bad) = absurd (bad shut)
  opens_one d (opens {start = k} some shut) (opens {start = l} again also) =
      (refl, ap (λ (c : StateCode). with_session s d (opened c)) (ap (start_or k) (sym some ∙ again)))

  posts_one : (d place waiting : ℕ) {r q : Reply} {u v : Seen} → Posts d place waiting s r u → Posts d place waiting s q v → Alike r u q v
  posts_one d place waiting (Posts.unloaded none) (Posts.unloaded again) = (refl, refl)
  posts_one d place waiting (Posts.unloaded none) (Posts.misnamed some bad) = both_ways _ none some
  posts_one d place waiting (Posts.unloaded none) (occupied some shown busy) = both_ways _ none some
  posts_one d place waiting (Posts.unloaded none) (posts some shown free) = both_ways _ none some
  posts_one d place waiting (Posts.misnamed some bad) (Posts.unloaded none) = both_ways _ none some
  posts_one d place waiting (Posts.misnamed some bad) (Posts.misnamed again also) = (refl, refl)
  posts_one d place waiting (Posts.misnamed some bad) (occupied again shown busy) = absurd (bad shown)
  posts_one d place waiting (Posts.misnamed some bad) (posts again shown free) = absurd (bad shown)
  posts_one d place waiting (occupied some shown busy) (Posts.unloaded none) = both_ways _ none some
  posts_one d place waiting (occupied some shown busy) (Posts.misnamed again bad) = absurd (bad shown)
  posts_one d place waiting (occupied some shown busy) (occupied again also more) = (refl, refl)
  posts_one d place waiting (occupied some shown busy) (posts again also free) = both_ways _ free busy
  posts_one d place waiting (posts some shown free) (Posts.unloaded none) = both_ways _ none some
  posts_one d place waiting (posts some shown free) (Posts.misnamed again bad) = absurd (bad shown)
  posts_one d place waiting (posts some shown free) (occupied again also busy) = both_ways _ free busy
  posts_one d place waiting (posts some shown free) (posts again also more) = (refl, refl)

  closes_one : (d : ℕ) {r q : Reply} {u v : Seen} → Closes d s r u → Closes d s q v → Alike r u q v
  closes_one d (Closes.unloaded none) (Closes.unloaded again) = (refl, refl)
  closes_one d (Closes.unloaded none) (Closes.misnamed some bad) = both_ways _ none some
  closes_one d (Closes.unloaded none) (closes some shown) = both_ways _ none some
  closes_one d (Closes.misnamed some bad) (Closes.unloaded none) = both_ways _ none some
  closes_one d (Closes.misnamed some bad) (Closes.misnamed again also) = (refl, refl)
  closes_one d (Closes.misnamed some bad) (closes again shown) = absurd (bad shown)
  closes_one d (closes some shown) (Closes.unloaded none) = both_ways _ none some
  closes_one d (closes some shown) (Closes.misnamed again bad) = absurd (bad shown)
  closes_one d (closes some shown) (closes again also) = (refl, refl)

  module _ (buffer : List ℕ) (quota : ℕ) (before other : List Mark) (same : length other ≡ length before) where
    good_here : GoodQuota quota (length other) → GoodQuota quota (length before)
    good_here good = subst (GoodQuota quota) same good

    good_there : GoodQuota quota (length before) → GoodQuota quota (length other)
    good_there good = subst (GoodQuota quota) (sym same) good

    -- a part lies in the buffer, or does not
    apart : {P : Type 0} (d e : ℕ) → d ≡ e → length buffer < part_end (session_of s.sessions d) → part_end (session_of s.sessions e) ≤ length buffer → P
    apart d e is out within =
        let here : part_end (session_of s.sessions d) ≤ length buffer = subst (λ n. part_end (session_of s.sessions n) ≤ length buffer) (sym is) within in
        absurd (omega (arith, out, here))

    -- two turns that serve
    both_serve : (d e : ℕ) → d ≡ e → (after later : List Mark) (r q : Result Progress Refusal) → Outcome s.listed (session_of s.sessions d).code (piece (session_of s.sessions d) buffer quota) before after r
        → Outcome s.listed (session_of s.sessions e).code (piece (session_of s.sessions e) buffer quota) other later q
        → Alike (served d (fed_told r after)) (after_serving s d r) (served e (fed_told q later)) (after_serving s e q)
    both_serve d e is after later r q x y =
        let y_here : Outcome s.listed (session_of s.sessions d).code (piece (session_of s.sessions d) buffer quota) other later q =
        subst (λ n. Outcome s.listed (session_of s.sessions n).code (piece (session_of s.sessions n) buffer quota) other later q) (sym is) y in
        let both = walks_one s.listed (session_of s.sessions d).code (piece (session_of s.sessions d) buffer quota) before other same after later r q x y_here in
        ((λ i. served (is i) (both.1 i)), (λ i. after_serving s (is i) (both.0 i)))

    turns_one : {r q : Reply} {after later : List Mark} {u v : Seen} → Turns buffer before quota s r after u → Turns buffer other quota s q later v → Alike r u q v
    turns_one (Turns.unloaded none) (Turns.unloaded none2) = (refl, refl)
    turns_one (Turns.unloaded none) (unfit some2 bad2) = both_ways _ none some2
    turns_one (Turns.unloaded none) (outside {coach = d2} some2 good2 comes2 out2) = both_ways _ none some2
    turns_one (Turns.unloaded none) (rests some2 good2 idle_all2) = both_ways _ none some2
    turns_one (Turns.unloaded none) (serves {coach = d2} {after = after2} r2 some2 good2 comes2 within2 bytes2 outcome2) = both_ways _ none some2
    turns_one (unfit some bad) (Turns.unloaded none2) = both_ways _ none2 some
    turns_one (unfit some bad) (unfit some2 bad2) = (refl, refl)
    turns_one (unfit some bad) (outside {coach = d2} some2 good2 comes2 out2) = absurd (bad (good_here good2))
    turns_one (unfit some bad) (rests some2 good2 idle_all2) = absurd (bad (good_here good2))
    turns_one (unfit some bad) (serves {coach = d2} {after = after2} r2 some2 good2 comes2 within2 bytes2 outcome2) = absurd (bad (good_here good2))
    turns_one (outside {coach = d} some good comes out) (Turns.unloaded none2) = both_ways _ none2 some
    turns_one (outside {coach = d} some good comes out) (unfit some2 bad2) = absurd (bad2 (good_there good))
    turns_one (outside {coach = d} some good comes out) (outside {coach = d2} some2 good2 comes2 out2) = (refl, refl)
    turns_one (outside {coach = d} some good comes out) (rests some2 good2 idle_all2) = comes_or_none s.sessions s.next d comes idle_all2
    turns_one (outside {coach = d} some good comes out) (serves {coach = d2} {after = after2} r2 some2 good2 comes2 within2 bytes2 outcome2) = apart d d2 (comes_one s.sessions s.next d d2 comes comes2) out within2
    turns_one (rests some good idle_all) (Turns.unloaded none2) = both_ways _ none2 some
    turns_one (rests some good idle_all) (unfit some2 bad2) = absurd (bad2 (good_there good))
    turns_one (rests some good idle_all) (outside {coach = d2} some2 good2 comes2 out2) = comes_or_none s.sessions s.next d2 comes2 idle_all
    turns_one (rests some good idle_all) (rests some2 good2 idle_all2) = (refl, refl)
    turns_one (rests some good idle_all) (serves {coach = d2} {after = after2} r2 some2 good2 comes2 within2 bytes2 outcome2) = comes_or_none s.sessions s.next d2 comes2 idle_all
    turns_one (serves {coach = d} {after = after} r some good comes within bytes outcome) (Turns.unloaded none2) = both_ways _ none2 some
    turns_one (serves {coach = d} {after = after} r some good comes within bytes outcome) (unfit some2 bad2) = absurd (bad2 (good_there good))
    turns_one (serves {coach = d} {after = after} r some good comes within bytes outcome) (outside {coach = d2} some2 good2 comes2 out2) = apart d2 d (comes_one s.sessions s.next d2 d comes2 comes) out2 within
    turns_one (serves {coach = d} {after = after} r some good comes within bytes outcome) (rests some2 good2 idle_all2) = comes_or_none s.sessions s.next d comes idle_all2
    turns_one (serves {coach = d} {after = after} r some good comes within bytes outcome) (serves {coach = d2} {after = after2} r2 some2 good2 comes2 within2 bytes2 outcome2) = both_serve d d2 (comes_one s.sessions s.next d d2 comes comes2) after after2 r r2 outcome outcome2

  -- any call
  pub step_one : (asked : Asked) (r q : Reply) (u v : Seen) → Step s asked r u → Step s asked q v → Alike r u q v
  step_one (loading a image) r q u v x y = loads_one a image x y
  step_one (opening d) r q u v x y = opens_one d x y
  step_one (posting d place waiting) r q u v x y = posts_one d place waiting x y
  step_one (turning buffer slots quota) r q u v x y = turns_one buffer quota x.before y.before (y.count ∙ sym x.count) x.turns y.turns
  step_one (closing d) r q u v x y = closes_one d x y

-- a series of calls from one beginning is told one thing, and leaves one thing behind
pub chain_one : {s last later : Seen} {events others : List Event} → Chain s events last → Chain s others later → map (λ (e : Event). e.0) events ≡ map (λ (e : Event). e.0) others → (events ≡ others) × (last ≡ later)
chain_one ended ended asks = (refl, refl)
chain_one ended (then step rest) asks = let z : ◌≡◌ {A = ℕ} 0 1 = cc in absurd (omega arith)
chain_one (then step rest) ended asks = let z : ◌≡◌ {A = ℕ} 0 1 = cc in absurd (omega arith)
chain_one (then {s = s} {next = next} {asked = a} {reply = r} {events = es} step rest) (then {next = other} {last = later} {asked = b} {reply = q} {events = fs} again more) asks =
    let first : a ≡ b = cc in
    let others : map (λ (e : Event). e.0) es ≡ map (λ (e : Event). e.0) fs = cc in
    let one = step_one s a r q next other step (subst (λ (x : Asked). Step s x q other) (sym first) again) in
    let on = chain_one rest (subst (λ (m : Seen). Chain m fs later) (sym one.1) more) others in
    ((λ i. (first i, one.0 i) ∷ on.0 i), on.1)
