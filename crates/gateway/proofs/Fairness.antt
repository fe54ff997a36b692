-- A coach whose bytes wait is served within 64 accepted turns: each of them brings the turn's place nearer.
use Rattle.std.proofs.Common.{◌≡◌, ℕ, ◌+◌, ◌-◌, ◌%◌, ◌<◌, ◌≤◌, true, false, Bool, cond, ◌&&◌, ◌||◌, ◌⊎◌, inl, inr, List, [], ◌∷◌, length, take, None, nat_lt, sym, refl, ap, ◌∙◌, subst, arith}
use Rattle.std.specs.List.{list_any, count_by}
use Rattle.std.proofs.lemmas.Bool.{false≢true, cases_lt, cases_eq}
use Rattle.std.proofs.lemmas.Bool.Decides.{eqb_tells, nat_tests}
use Rattle.std.proofs.lemmas.List.{length-set}
use Rattle.std.proofs.lemmas.List.Sums.{sum_by-cons}
use Rattle.ternary.specs.declared.words.Mark.{Mark}
use Rattle.automaton.specs.Limits.{Handed}
use Rattle.gateway.specs.declared.session.Session.{Session}
use Rattle.gateway.specs.Sessions.{closed, opened, posted, session_of, waits, NoneWaits, walked}
use Rattle.gateway.specs.Gateways.{Seen, IsBlank, Asked, loading, opening, posting, turning, closing, Reply, refused, accepted, Loads, declines, loads, Opens, opens, Posts, occupied, posts, Closes, closes, Turns, unfit, outside, rests, serves, Step}
use Rattle.gateway.specs.Laws.{Event, Chain, ended, then, blank_journal, journal, is_turn_of, is_turn, ends_wait_of, ends_wait, IsFair}
use Rattle.gateway.proofs.Agreeing.{first_true, wrote, chain_cut, chain_keeps, blank_kept}
use Rattle.gateway.proofs.Tables.{beyond, set_other, steps_to}

-- a coach waits, so many steps ahead of the turn's place
pub record Ahead (coach : ℕ) (s : Seen) (k : ℕ) : Type 0 where
  pub many : length s.sessions ≡ 64
  pub busy : waits (session_of s.sessions coach) ≡ true
  pub at : coach ≡ (s.next + k) % 64

-- a call ends its wait, or leaves it waiting; and a turn then brings the place nearer
abbrev pub Nearer : ℕ → ℕ → Asked → Reply → Seen → Type 0
Nearer coach k asked reply next = (ends_wait_of coach asked reply ≡ true) ⊎ ((m : ℕ) × Ahead coach next m × (m + cond (is_turn_of asked reply) 1 0 ≤ k))

-- behind the coach served, in steps
nearer_by : (from k t d coach : ℕ) → t < k → d ≡ (from + t) % 64 → coach ≡ (from + k) % 64 → coach ≡ ((d + 1) % 64 + (k - t - 1)) % 64
nearer_by from k t d coach less at there = omega arith

open_waits : (x : Session) → waits x ≡ true → x.is_open ≡ true
open_waits x busy = first_true x.is_open _ busy

module _ (coach : ℕ) (s : Seen) (k : ℕ) (ahead : Ahead coach s k) where
  stays : (asked : Asked) (reply : Reply) → is_turn_of asked reply ≡ false → Nearer coach k asked reply s
  stays asked reply none = inr (k, ahead, subst (λ (b : Bool). k + cond b 1 0 ≤ k) (sym none) (omega arith))

  -- another coach's record is written
  beside : (asked : Asked) (reply : Reply) (d : ℕ) (x : Session) → is_turn_of asked reply ≡ false → (d ≡ coach → ⊥) → Nearer coach k asked reply (wrote s d x s.next)
  beside asked reply d x none ne = inr (
    k,
    record {
      many = length-set s.sessions d x ∙ ahead.many;
      busy = subst (λ (y : Session). waits y ≡ true) (sym (set_other s.sessions d coach x (λ e. ne (sym e)))) ahead.busy;
      at = ahead.at;
    },
    subst (λ (b : Bool). k + cond b 1 0 ≤ k) (sym none) (omega arith),
  )

  loads_near : (a : Handed) (image : List ℕ) {reply : Reply} {next : Seen} → Loads a image s reply next → Nearer coach k (loading a image) reply next
  loads_near a image (declines {n = n} {vs = vs} why) = stays (loading a image) (refused n vs) refl
  loads_near a image (loads ok room all) = inl refl

  opens_near : (d : ℕ) {reply : Reply} {next : Seen} → Opens d s reply next → Nearer coach k (opening d) reply next
  opens_near d (Opens.unloaded none) = stays (opening d) (refused 8 []) refl
  opens_near d (Opens.misnamed some bad) = stays (opening d) (refused 16 []) refl
  opens_near d (opens {start = start} some shut) =
      beside (opening d) accepted d (opened start) refl (λ e.
      absurd (false≢true (sym (subst (λ n. (session_of s.sessions n).is_open ≡ false) e shut.flag) ∙ open_waits (session_of s.sessions coach) ahead.busy)))

  posts_near : (d place waiting : ℕ) {reply : Reply} {next : Seen} → Posts d place waiting s reply next → Nearer coach k (posting d place waiting) reply next
  posts_near d place waiting (Posts.unloaded none) = stays (posting d place waiting) (refused 8 []) refl
  posts_near d place waiting (Posts.misnamed some shut) = stays (posting d place waiting) (refused 16 []) refl
  posts_near d place waiting (occupied some shown busy) = stays (posting d place waiting) (refused 17 []) refl
  posts_near d place waiting (posts some shown free) =
      beside (posting d place waiting) accepted d (posted (session_of s.sessions d) place waiting) refl (λ e.
      absurd (false≢true (sym (subst (λ n. waits (session_of s.sessions n) ≡ false) e free) ∙ ahead.busy)))

  closes_near : (d : ℕ) {reply : Reply} {next : Seen} → Closes d s reply next → Nearer coach k (closing d) reply next
  closes_near d (Closes.unloaded none) = stays (closing d) (refused 8 []) refl
  closes_near d (Closes.misnamed some shut) = stays (closing d) (refused 16 []) refl
  closes_near d (closes some shown) =
      elim (eqb_tells d coach) [
        | inl h ↦ inl (ap (λ b. b && true) h.0)
        | inr h ↦ beside (closing d) accepted d closed refl h.1
      ]

  -- none waits: then neither does the coach
  none_waits : NoneWaits s.sessions → ⊥
  none_waits none = false≢true (sym (none coach (omega (arith, ahead.at))) ∙ ahead.busy)

  turns_near : (buffer : List ℕ) (slots quota : ℕ) (before : List Mark) {reply : Reply} {after : List Mark} {next : Seen} → Turns buffer before quota s reply after next → Nearer coach k (turning buffer slots quota) reply next
  turns_near buffer slots quota before (Turns.unloaded none) = stays (turning buffer slots quota) (refused 8 []) refl
  turns_near buffer slots quota before (unfit some bad) = stays (turning buffer slots quota) (refused 18 []) refl
  turns_near buffer slots quota before (outside some good comes out) = stays (turning buffer slots quota) (refused 18 []) refl
  turns_near buffer slots quota before (rests some good none) = absurd (none_waits none)
  turns_near buffer slots quota before (serves {coach = d} {after = after} r some good comes within bytes outcome) =
      elim (eqb_tells d coach) [
        | inl h ↦ inl h.0
        | inr h ↦
            elim (cases_lt comes.steps k) [
              | inl less ↦ inr (
                k - comes.steps - 1,
                record {
                  many = length-set s.sessions d (walked (session_of s.sessions d) r) ∙ ahead.many;
                  busy = subst (λ (y : Session). waits y ≡ true) (sym (set_other s.sessions d coach (walked (session_of s.sessions d) r) (λ e. h.1 (sym e)))) ahead.busy;
                  at = nearer_by s.next k comes.steps d coach less comes.at ahead.at;
                },
                omega arith,
              )
              | inr more ↦
                  elim (cases_eq k comes.steps) [
                    | inl same ↦ absurd (h.1 (comes.at ∙ ap (λ n. (s.next + n) % 64) (sym same) ∙ sym ahead.at))
                    | inr other ↦
                        let before_it : k < comes.steps = omega (arith, other) in
                        absurd (false≢true (sym (subst (λ n. waits (session_of s.sessions n) ≡ false) (sym ahead.at) (comes.none_before k before_it)) ∙ ahead.busy))
                  ]
            ]
      ]

  step_near : (asked : Asked) (reply : Reply) (next : Seen) → Step s asked reply next → Nearer coach k asked reply next
  step_near (loading a image) reply next step = loads_near a image step
  step_near (opening d) reply next step = opens_near d step
  step_near (posting d place waiting) reply next step = posts_near d place waiting step
  step_near (turning buffer slots quota) reply next step = turns_near buffer slots quota step.before step.turns
  step_near (closing d) reply next step = closes_near d step

or_first : (a b : Bool) → a ≡ true → (a || b) ≡ true
or_first true b e = refl
or_first false b e = absurd (false≢true e)

or_second : (a b : Bool) → b ≡ true → (a || b) ≡ true
or_second true b e = refl
or_second false b e = e

-- a series with more accepted turns than the coach has steps ahead has one call that ends its wait
pub wait_ends : (coach k : ℕ) {s last : Seen} {events : List Event} → Chain s events last → Ahead coach s k → k < count_by is_turn events → list_any (ends_wait coach) events ≡ true
wait_ends coach k ended ahead turns = absurd (omega arith)
wait_ends coach k (then {s = s} {next = next} {asked = asked} {reply = reply} {events = events} step rest) ahead turns =
    let one : count_by is_turn ((asked, reply) ∷ events) ≡ cond (is_turn_of asked reply) 1 0 + count_by is_turn events = sum_by-cons (λ (e : Event). cond (is_turn e) 1 0) (asked, reply) events in
    elim (step_near coach s k ahead asked reply next step) [
      | inl ends ↦ or_first (ends_wait_of coach asked reply) (list_any (ends_wait coach) events) ends
      | inr on ↦ or_second (ends_wait_of coach asked reply) (list_any (ends_wait coach) events) (wait_ends coach on.0 rest on.1 (omega (arith, one, on.2)))
    ]

bytes_wait : (x : Session) (n : ℕ) → x.is_open ≡ true → x.waiting ≡ n → 0 < n → waits x ≡ true
bytes_wait x n shown is some =
    let more : nat_lt 0 x.waiting ≡ true = lt_true x.waiting (subst (λ m. 0 < m) (sym is) some) in
    ap (λ b. b && nat_lt 0 x.waiting) shown ∙ more
  where
    lt_true : (m : ℕ) → 0 < m → nat_lt 0 m ≡ true
    lt_true m h = grind (arith, nat_tests)

opened_of : (b : Bool) → (b ≡ false → ⊥) → b ≡ true
opened_of true never = refl
opened_of false never = absurd (never refl)

-- the law on waiting
pub is_fair : (s last : Seen) (events : List Event) → IsBlank s → Chain s events last → IsFair events
is_fair s last events blank chain coach n m wait turns =
    let cut = chain_cut n chain in
    let stretch = chain_cut m cut.2 in
    let j = journal coach (take n events) in
    let kept = chain_keeps coach (blank_journal None false) cut.1 (blank_kept coach s blank) in
    let x = session_of cut.0.sessions coach in
    let shown : x.is_open ≡ true = kept.agrees.is_open ∙ opened_of j.is_open (λ e. absurd (zero_not j.waiting wait (kept.agrees.shut e))) in
    let busy : waits x ≡ true = bytes_wait x j.waiting shown kept.agrees.waiting wait in
    let below : coach < 64 = within cut.0.sessions coach kept.many busy in
    let far = steps_to cut.0.next coach below in
    wait_ends coach far.0 stretch.1 (record { many = kept.many; busy = busy; at = far.2 }) (omega (arith, turns, far.1))
  where
    zero_not : (n : ℕ) → 0 < n → n ≡ 0 → ⊥
    zero_not n more none = omega arith

    within : (xs : List Session) (d : ℕ) → length xs ≡ 64 → waits (session_of xs d) ≡ true → d < 64
    within xs d many busy =
        elim (cases_lt d 64) [
          | inl less ↦ less
          | inr out ↦
              let past : length xs ≤ d = omega arith in
              absurd (false≢true (subst (λ (y : Session). waits y ≡ true) (beyond xs d past) busy))
        ]
