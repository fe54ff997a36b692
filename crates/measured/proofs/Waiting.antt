-- A gateway in which all coaches are opened, and wait, one after another.
use Rattle.std.proofs.Common.{◌≡◌, ℕ, ◌+◌, ◌<◌, ◌≤◌, inl, inr, List, length, Some, None, Option, is_some, sym, ap, ◌∙◌, subst, arith}
use Rattle.std.proofs.lemmas.Bool.{cases_lt, false≢true}
use Rattle.std.proofs.lemmas.List.{get_or-set_other, get_or-set_same, length-set}
use Rattle.ternary.specs.declared.entry.Entry.{Entry}
use Rattle.ternary.specs.declared.words.StateCode.{StateCode}
use Rattle.ternary.specs.declared.refusal.Refusal.{Refusal}
use Rattle.ternary.specs.Refusals.{number, values}
use Rattle.automaton.specs.Limits.{Handed}
use Rattle.table.specs.Acceptance.{Acceptable}
use Rattle.scanner.specs.Book.{LoadRefuses}
use Rattle.gateway.specs.declared.session.Session.{Session}
use Rattle.gateway.specs.Sessions.{closed, opened, posted, session_of, waits, AllClosed}
use Rattle.gateway.specs.Gateways.{Seen, Reply, accepted, refused, with_session, Loads, declines, loads, Opens, opens, Posts, occupied, posts}
use Rattle.measured.specs.Turns.{AllWait, TurnsTold}

-- the first coaches wait for all of so many bytes, and the others are not open
pub record FirstWait (k : ℕ) (entries : List Entry) (code : StateCode) (bytes : ℕ) (s : Seen) : Type 0 where
  pub listed : s.listed ≡ entries
  pub start : s.start ≡ Some code
  pub count : length s.sessions ≡ 64
  pub first : (coach : ℕ) → coach < k → session_of s.sessions coach ≡ posted (opened code) 0 bytes
  pub rest : (coach : ℕ) → k ≤ coach → session_of s.sessions coach ≡ closed
  pub next : s.next ≡ 0

-- at first none waits
pub none_wait : (entries : List Entry) (code : StateCode) (bytes : ℕ) (s : Seen) → s.listed ≡ entries → s.start ≡ Some code → AllClosed s.sessions → s.next ≡ 0 → FirstWait 0 entries code bytes s
none_wait entries code bytes s listed start all next = record {
  listed = listed;
  start = start;
  count = all.count;
  first = λ coach below. absurd (omega (arith, below));
  rest = λ coach above. all.each coach;
  next = next;
}

-- at last all wait
pub all_wait : (entries : List Entry) (code : StateCode) (bytes : ℕ) (s : Seen) → FirstWait 64 entries code bytes s → AllWait entries code bytes s
all_wait entries code bytes s wait = record { listed = wait.listed; start = wait.start; count = wait.count; each = wait.first; next = wait.next }

-- the code, where there is one
abbrev code_in : StateCode → Option StateCode → StateCode
code_in other None = other
code_in other (Some code) = code

-- the next coach is opened
opened_next : {k bytes : ℕ} {entries : List Entry} {code : StateCode} {s s' : Seen} {r : Reply} → FirstWait k entries code bytes s → k < 64 → Opens k s r s' → s' ≡ with_session s k (opened code)
opened_next wait below (Opens.unloaded none) = absurd (false≢true (sym none ∙ ap is_some wait.start))
opened_next {k} wait below (Opens.misnamed some taken) = absurd (taken (record { below = below; flag = ap (λ (x : Session). x.is_open) (wait.rest k (omega arith)) }))
opened_next {k} {bytes} {entries} {code} {s} wait below (opens some shut) = ap (λ (c : StateCode). with_session s k (opened c)) (ap (code_in code) (sym some ∙ wait.start))

-- its part waits
posted_next : {k bytes : ℕ} {code : StateCode} {s s' : Seen} {r : Reply} → s.start ≡ Some code → k < 64 → session_of s.sessions k ≡ opened code → Posts k 0 bytes s r s' → s' ≡ with_session s k (posted (opened code) 0 bytes)
posted_next start below fresh (Posts.unloaded none) = absurd (false≢true (sym none ∙ ap is_some start))
posted_next start below fresh (Posts.misnamed some shut) = absurd (shut (record { below = below; flag = ap (λ (x : Session). x.is_open) fresh }))
posted_next start below fresh (occupied some is busy) = absurd (false≢true (sym (ap waits fresh) ∙ busy))
posted_next {k} {bytes} {code} {s} start below fresh (posts some is free) = ap (λ (x : Session). with_session s k (posted x 0 bytes)) fresh

-- one coach more waits, where its record is written twice
written_next : (k bytes : ℕ) (entries : List Entry) (code : StateCode) (s : Seen) (x : Session) → FirstWait k entries code bytes s → k < 64
    → FirstWait (k + 1) entries code bytes (with_session (with_session s k x) k (posted (opened code) 0 bytes))
written_next k bytes entries code s x wait below =
    let y : Session = posted (opened code) 0 bytes in
    let once = (with_session s k x).sessions in
    let room : length once ≡ 64 = length-set s.sessions k x ∙ wait.count in
    let other : (coach : ℕ) → (coach ≡ k → ⊥) → session_of (with_session (with_session s k x) k y).sessions coach ≡ session_of s.sessions coach =
    λ coach ne. get_or-set_other once k coach y closed ne ∙ get_or-set_other s.sessions k coach x closed ne in
    record {
      listed = wait.listed;
      start = wait.start;
      count = length-set once k y ∙ room;
      first = λ coach under. elim (cases_lt coach k) [
        | inl h ↦ other coach (λ e. absurd (omega (arith, h, e))) ∙ wait.first coach h
        | inr h ↦ let e : k ≡ coach = omega (arith, h, under) in subst (λ (c : ℕ). session_of (with_session (with_session s k x) k y).sessions c ≡ y) e (get_or-set_same once k y closed (omega (arith, room, below)))
      ];
      rest = λ coach above. other coach (λ e. absurd (omega (arith, above, e))) ∙ wait.rest coach (omega (arith, above));
      next = wait.next;
    }

-- an open and a post more
pub wait_more : (k bytes : ℕ) (entries : List Entry) (code : StateCode) (s s' s'' : Seen) (r r' : Reply) → FirstWait k entries code bytes s → k < 64 → Opens k s r s' → Posts k 0 bytes s' r' s''
    → FirstWait (k + 1) entries code bytes s''
wait_more k bytes entries code s s' s'' r r' wait below opening posting =
    let opened_is = opened_next wait below opening in
    let once = with_session s k (opened code) in
    let posting' : Posts k 0 bytes once r' s'' = subst (λ (t : Seen). Posts k 0 bytes t r' s'') opened_is posting in
    let shown : session_of once.sessions k ≡ opened code = get_or-set_same s.sessions k (opened code) closed (omega (arith, wait.count, below)) in
    let posted_is = posted_next {k = k} {bytes = bytes} {code = code} {s = once} wait.start below shown posting' in
    subst (λ (t : Seen). FirstWait (k + 1) entries code bytes t) (sym posted_is) (written_next k bytes entries code s (opened code) wait below)

-- a load that is accepted is of an acceptable image
pub acceptable : {a : Handed} {image : List ℕ} {s s' : Seen} → Loads a image s accepted s' → Acceptable a image
acceptable (loads ok room all) = ok

-- a load that is refused tells why
pub why_refused : {a : Handed} {image vs : List ℕ} {n : ℕ} {s s' : Seen} → Loads a image s (refused n vs) s' → LoadRefuses s.capacity a image n vs
why_refused (declines why) = why

-- a load that is refused by a card of 4,096 places tells its number
pub told_refused : (a : Handed) (image buffer : List ℕ) (quota n size sum : ℕ) (why : Refusal) → size ≡ 4096 → LoadRefuses size a image (number why) (values why) → sum ≡ number why → TurnsTold a image buffer quota n sum
told_refused a image buffer quota n size sum why full refuses is =
    subst (λ x. TurnsTold a image buffer quota n x) (sym is) (TurnsTold.refused why (subst (λ m. LoadRefuses m a image (number why) (values why)) full refuses))
