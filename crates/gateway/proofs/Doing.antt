-- From what the parts of a call ensure to what the call is.
use Rattle.std.proofs.Common.{◌≡◌, ℕ, ◌+◌, ◌%◌, ◌<◌, ◌≤◌, true, false, List, [], length, Some, None, Err, Option, Result, sym, ap, subst, arith}
use Rattle.std.specs.List.{AllByRecursion}
use Rattle.std.proofs.Math.ListN.{set}
use Rattle.ternary.specs.declared.entry.Entry.{Entry}
use Rattle.ternary.specs.declared.refusal.Refusal.{Refusal}
use Rattle.ternary.specs.declared.words.Mark.{Mark}
use Rattle.ternary.specs.declared.words.Progress.{Progress}
use Rattle.ternary.specs.declared.words.StateCode.{StateCode}
use Rattle.ternary.specs.Refusals.{number, values}
use Rattle.automaton.specs.Limits.{Handed}
use Rattle.scanner.specs.Book.{LoadRefuses}
use Rattle.scanner.specs.declared.scanner.Position.{Position}
use Rattle.scanner.specs.Scanners.{at_start, standing, Entered, fed_told}
use Rattle.scanner.specs.Walks.{Outcome}
use Rattle.image.specs.Format.{decode}
use Rattle.table.specs.Acceptance.{code_of}
use Rattle.gateway.specs.declared.session.Session.{Session}
use Rattle.gateway.specs.declared.gateway.Gateway.{Gateway}
use Rattle.gateway.specs.Sessions.{closed, opened, posted, session_of, IsOpen, IsShut, AllClosed, waits, part_end, Comes, piece, walked}
use Rattle.gateway.specs.Gateways.{Seen, seen, IsLoaded, with_session, refused, accepted, done_reply, Loads, declines, loads, Opens, opens, Posts, occupied, posts, Closes, closes, served, GoodQuota, Turns, outside, serves}

-- an open, at the place that is the coach's number
pub opened_at : (s : Seen) (coach place : ℕ) (start : StateCode) (x : Session) → place ≡ coach → x ≡ opened start → s.start ≡ Some start → IsShut s.sessions coach
    → Opens coach s accepted (with_session s place x)
opened_at s coach place start x at is some shut =
    subst (λ (n : ℕ). Opens coach s accepted (with_session s n x)) (sym at) (subst (λ (y : Session). Opens coach s accepted (with_session s coach y)) (sym is) (opens some shut))

-- a close
pub closed_at : (s : Seen) (coach place : ℕ) (x : Session) → place ≡ coach → x ≡ closed → IsLoaded s → IsOpen s.sessions coach
    → Closes coach s accepted (with_session s place x)
closed_at s coach place x at is some shown =
    subst (λ (n : ℕ). Closes coach s accepted (with_session s n x)) (sym at) (subst (λ (y : Session). Closes coach s accepted (with_session s coach y)) (sym is) (closes some shown))

-- a post of a coach whose bytes wait
pub occupied_at : (s : Seen) (coach number place waiting : ℕ) → number ≡ coach → IsLoaded s → IsOpen s.sessions coach → waits (session_of s.sessions number) ≡ true → Posts coach place waiting s (refused 17 []) s
occupied_at s coach number place waiting at some shown busy = occupied some shown (subst (λ (n : ℕ). waits (session_of s.sessions n) ≡ true) at busy)

-- a post
pub posted_at : (s : Seen) (coach number place waiting : ℕ) (x : Session) → number ≡ coach → x ≡ posted (session_of s.sessions number) place waiting → IsLoaded s
    → IsOpen s.sessions coach → waits (session_of s.sessions number) ≡ false → Posts coach place waiting s accepted (with_session s number x)
posted_at s coach number place waiting x at is some shown free =
    subst (λ (y : Session). Posts coach place waiting s accepted (with_session s number y)) (sym is)
    (subst (λ (n : ℕ). Posts coach place waiting s accepted (with_session s n (posted (session_of s.sessions n) place waiting))) (sym at)
    (posts some shown (subst (λ (n : ℕ). waits (session_of s.sessions n) ≡ false) at free)))

-- a turn that serves
pub served_at : (s : Seen) (buffer : List ℕ) (before after : List Mark) (quota coach number : ℕ) (x : Session) (r : Result Progress Refusal) → number ≡ coach → x ≡ walked (session_of s.sessions number) r
    → IsLoaded s → GoodQuota quota (length before) → Comes s.sessions s.next coach
    → part_end (session_of s.sessions number) ≤ length buffer → AllByRecursion (λ b. b < 256) buffer
    → Outcome s.listed (session_of s.sessions number).code (piece (session_of s.sessions number) buffer quota) before after r
    → Turns buffer before quota s (served coach (fed_told r after)) after (record { listed = s.listed; capacity = s.capacity; start = s.start; sessions = set s.sessions number x; next = (coach + 1) % 64 })
served_at s buffer before after quota coach number x r at is some good comes within bytes outcome =
    subst (λ (y : Session). Turns buffer before quota s (served coach (fed_told r after)) after (record { listed = s.listed; capacity = s.capacity; start = s.start; sessions = set s.sessions number y; next = (coach + 1) % 64 })) (sym is)
    (subst (λ (n : ℕ). Turns buffer before quota s (served coach (fed_told r after)) after
    (record { listed = s.listed; capacity = s.capacity; start = s.start; sessions = set s.sessions n (walked (session_of s.sessions n) r); next = (coach + 1) % 64 })) (sym at)
    (serves r some good comes
    (subst (λ (n : ℕ). part_end (session_of s.sessions n) ≤ length buffer) at within) bytes
    (subst (λ (n : ℕ). Outcome s.listed (session_of s.sessions n).code (piece (session_of s.sessions n) buffer quota) before after r) at outcome)))

-- a load that is refused
pub refused_at : {C : Type 0} (entries : C → List Entry) (size : C → ℕ) (a : Handed) (image : List ℕ) (g : Gateway C) (card : C) (r : Result (Unit {0}) Refusal) (why : Refusal)
    → card ≡ g.card → r ≡ Err why → LoadRefuses (size g.card) a image (number why) (values why)
    → Loads a image (seen entries size g) (done_reply r) (seen entries size (record { card = card; start = g.start; sessions = g.sessions; next = g.next }))
refused_at {C} entries size a image g card r why same err refuses =
    subst (λ (later : C). Loads a image (seen entries size g) (done_reply r) (seen entries size (record { card = later; start = g.start; sessions = g.sessions; next = g.next }))) (sym same)
    (subst (λ (x : Result (Unit {0}) Refusal). Loads a image (seen entries size g) (done_reply x) (seen entries size g)) (sym err) (declines refuses))

-- where who stands somewhere has its start
abbrev start_in : StateCode → Option Position → StateCode
start_in other None = other
start_in other (Some at) = at.start

-- a load
pub loaded_at : (s : Seen) (a : Handed) (image : List ℕ) (listed : List Entry) (capacity : ℕ) (start : StateCode) (sessions : List Session)
    → Entered a image (standing s.listed s.capacity None) (standing listed capacity (at_start start)) → AllClosed sessions
    → Loads a image s accepted (record { listed = listed; capacity = capacity; start = Some start; sessions = sessions; next = 0 })
loaded_at s a image listed capacity start sessions entered all =
    let is : start ≡ code_of (decode image) a.start = ap (start_in start) entered.position in
    let there : List Entry → ℕ → StateCode → Seen = λ l n k. record { listed = l; capacity = n; start = Some k; sessions = sessions; next = 0 } in
    subst (λ (l : List Entry). Loads a image s accepted (there l capacity start)) (sym entered.listed)
    (subst (λ (n : ℕ). Loads a image s accepted (there (decode image).entries n start)) (sym entered.capacity)
    (subst (λ (k : StateCode). Loads a image s accepted (there (decode image).entries s.capacity k)) (sym is) (loads entered.acceptable entered.room all)))

-- a turn that comes to a coach whose part is not in the buffer
pub outside_at : (s : Seen) (buffer : List ℕ) (before : List Mark) (quota coach number : ℕ) → number ≡ coach → IsLoaded s → GoodQuota quota (length before) → Comes s.sessions s.next coach
    → (part_end (session_of s.sessions number) ≤ length buffer → ⊥) → Turns buffer before quota s (refused 18 []) before s
outside_at s buffer before quota coach number at some good comes out =
    let beyond : length buffer < part_end (session_of s.sessions number) = omega (arith, out) in
    outside some good comes (subst (λ (n : ℕ). length buffer < part_end (session_of s.sessions n)) at beyond)
