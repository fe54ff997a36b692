-- What a coach's record has to do with what calls and answers show of the coach, and how serving keeps it so.
use Rattle.std.proofs.Common.{◌≡◌, ℕ, ◌+◌, ◌-◌, ◌<◌, ◌≤◌, min, true, false, List, [], ◌++◌, map, length, take, drop, Some, None, Ok, Option, Result, is_some, unwrap_or, nat_lt, sym, refl, ap, ◌∙◌, subst, arith, length-take, length-drop}
use Rattle.std.proofs.ByRecursion.{All-take, All-drop}
use Rattle.std.proofs.lemmas.Bool.{false≢true}
use Rattle.std.proofs.lemmas.Bool.Decides.{nat_tests}
use Rattle.std.proofs.lemmas.List.{take-take}
use Rattle.ternary.specs.declared.entry.Entry.{Entry}
use Rattle.ternary.specs.declared.refusal.Refusal.{Refusal}
use Rattle.ternary.specs.declared.words.Mark.{Mark}
use Rattle.ternary.specs.declared.words.Progress.{Progress}
use Rattle.ternary.specs.declared.words.StateCode.{StateCode}
use Rattle.ternary.specs.Marks.{Marked, marked}
use Rattle.automaton.specs.Runs.{Dfa, reach, marks, raised}
use Rattle.table.specs.Acceptance.{Carries}
use Rattle.scanner.specs.Scanners.{Closed, fed_told}
use Rattle.scanner.specs.Walks.{Outcome, Tells, Walked}
use Rattle.scanner.proofs.OneAnswer.{Ends, well, unmatched, too_long, ends}
use Rattle.scanner.proofs.Simulation.{Bytes, reach-++, reach_is, code_of_lem, marks_of, most_of, has-entry}
use Rattle.gateway.specs.declared.session.Session.{Session}
use Rattle.gateway.specs.Sessions.{part_end, piece, walked}
use Rattle.gateway.specs.Gateways.{GoodQuota}
use Rattle.gateway.specs.Laws.{Journal, fed_journal, AreMarksOf, TookAll}
use Rattle.automaton.proofs.Marking.{marks_behind, length-marks}

not_below_itself : (n : ℕ) → nat_lt n n ≡ false
not_below_itself n = grind (arith, nat_tests)

-- of a loaded gateway with this list and this start code: the coach's record is at the code of the state that its bytes lead to
pub record Stands (j : Journal) (x : Session) (listed : List Entry) (k : StateCode) : Type 0 where
  pub a : Dfa
  pub code : ℕ → StateCode
  pub loaded : j.loaded ≡ Some a
  pub closed : Closed a
  pub carries : Carries a code listed
  pub start : k ≡ code a.start
  pub state : reach a a.start j.taken < a.states
  pub at : j.is_open ≡ true → x.code ≡ code (reach a a.start j.taken)
  pub marked : j.placed ≡ marks a a.start 0 j.taken

-- a coach's record, in a gateway with this list and this start code, agrees with what calls and answers show
pub record Agrees (j : Journal) (x : Session) (listed : List Entry) (start : Option StateCode) : Type 0 where
  pub is_open : x.is_open ≡ j.is_open
  pub place : x.place ≡ j.place
  pub waiting : x.waiting ≡ j.waiting
  pub shut : j.is_open ≡ false → j.waiting ≡ 0
  pub unloaded : is_some start ≡ false → (j.loaded ≡ None) × (j.placed ≡ [])
  pub stands : (k : StateCode) → start ≡ Some k → Stands j x listed k

-- then the marks are the automaton's own
pub own_marks : (j : Journal) (x : Session) (listed : List Entry) (start : Option StateCode) → Agrees j x listed start → AreMarksOf j.loaded j.taken j.placed
own_marks j x listed None agrees = let u = agrees.unloaded refl in subst (λ o. AreMarksOf o j.taken j.placed) (sym u.0) u.1
own_marks j x listed (Some k) agrees = let s = agrees.stands k refl in subst (λ o. AreMarksOf o j.taken j.placed) (sym s.loaded) s.marked

module _ (j : Journal) (x : Session) (listed : List Entry) (k : StateCode) (agrees : Agrees j x listed (Some k)) (shown : x.is_open ≡ true) (buffer : List ℕ) (bytes : Bytes buffer)
    (quota : ℕ) (before : List Mark) (good : GoodQuota quota (length before)) (within : part_end x ≤ length buffer) where
  -- as many bytes as there are to walk over
  size : length (piece x buffer quota) ≡ min quota x.waiting
  size = length-take (min quota x.waiting) (drop x.place buffer) ∙ omega (arith, within, length-drop x.place buffer)

  all : Bytes (piece x buffer quota)
  all = All-take (λ b. b < 256) (min quota x.waiting) (drop x.place buffer) (All-drop (λ b. b < 256) x.place buffer bytes)

  -- a walk that ends well keeps it so, and takes all that it goes over
  walked_well : (s : Stands j x listed k) (after : List Mark) (p : Progress) → Walked listed x.code (piece x buffer quota) before after p
      → Agrees (fed_journal j buffer (fed_told (Ok p) after)) (walked x (Ok p)) listed (Some k) × TookAll (min quota j.waiting) (fed_told (Ok p) after)
  walked_well s after p w =
      let a = s.a in
      let s0 = reach a a.start j.taken in
      let there : x.code ≡ s.code s0 = s.at (sym agrees.is_open ∙ shown) in
      let tells : Tells listed (s.code s0) (piece x buffer quota) before after p = subst (λ (c : StateCode). Tells listed c (piece x buffer quota) before after p) there w.tells in
      let over = piece x buffer quota in
      let new = take p.taken over in
      let code_at : p.code ≡ s.code (reach a s0 new) = code_of_lem a s.code listed s.closed s.carries s0 s.state over all before after p tells in
      let marks_at : map marked (take p.marks after) ≡ marks a s0 0 new = marks_of a s.code listed s.closed s.carries s0 s.state over all before after p tells in
      let most = most_of a s.code listed s.closed s.carries s0 s.state over all before after p tells in
      let few : length (marks a s0 0 (take (length over) over)) ≤ length before = omega (arith, length-marks a s0 0 (take (length over) over), length-take (length over) over, size, good.room) in
      let whole : p.taken ≡ length over = omega (arith, most.within, most.most (length over) (omega arith) few) in
      let part : p.taken ≤ min quota x.waiting = omega (arith, whole, size) in
      let new_is : new ≡ take p.taken (drop j.place buffer) = take-take p.taken (min quota x.waiting) (drop x.place buffer) part ∙ ap (λ n. take p.taken (drop n buffer)) agrees.place in
      let on : reach a a.start (j.taken ++ new) ≡ reach a s0 new = reach-++ a a.start j.taken new in
      let on_states : reach a a.start (j.taken ++ new) < a.states = subst (λ n. n < a.states) (sym on) (reach_is a s.closed s0 new s.state (All-take (λ b. b < 256) p.taken over all)) in
      let on_code : p.code ≡ s.code (reach a a.start (j.taken ++ new)) = code_at ∙ ap s.code (sym on) in
      let on_marks : j.placed ++ raised (length j.taken) (map marked (take p.marks after)) ≡ marks a a.start 0 (j.taken ++ new) =
      ap (λ (ms : List Marked). j.placed ++ raised (length j.taken) ms) marks_at ∙ ap (λ (ps : List Marked). ps ++ raised (length j.taken) (marks a s0 0 new)) s.marked ∙ marks_behind a j.taken new in (
        record {
          is_open = agrees.is_open;
          place = ap (λ n. n + p.taken) agrees.place;
          waiting = ap (λ n. n - p.taken) agrees.waiting;
          shut = λ e. absurd (false≢true (sym e ∙ (sym agrees.is_open ∙ shown)));
          unloaded = λ e. absurd (false≢true (sym e));
          stands = λ other e. record {
            a = a;
            code = s.code;
            loaded = s.loaded;
            closed = s.closed;
            carries = s.carries;
            start = sym (ap (λ o. unwrap_or o k) e) ∙ s.start;
            state = subst (λ (bs : List ℕ). reach a a.start (j.taken ++ bs) < a.states) new_is on_states;
            at = λ h. subst (λ (bs : List ℕ). p.code ≡ s.code (reach a a.start (j.taken ++ bs))) new_is on_code;
            marked = subst (λ (bs : List ℕ). j.placed ++ raised (length j.taken) (map marked (take p.marks after)) ≡ marks a a.start 0 (j.taken ++ bs)) new_is on_marks;
          };
        },
        (whole ∙ size ∙ ap (min quota) agrees.waiting, w.full ∙ ap (λ n. nat_lt n (length over)) whole ∙ not_below_itself (length over)),
      )

  -- each way in which a walk ends
  ended_walk : (s : Stands j x listed k) {after : List Mark} {r : Result Progress Refusal} → Ends listed x.code (piece x buffer quota) before after r
      → Agrees (fed_journal j buffer (fed_told r after)) (walked x r) listed (Some k) × TookAll (min quota j.waiting) (fed_told r after)
  ended_walk s {after} (well {p = p} w) = walked_well s after p w
  ended_walk s {after} (unmatched {p = p} w) =
      let there : x.code ≡ s.code (reach s.a s.a.start j.taken) = s.at (sym agrees.is_open ∙ shown) in
      let tells = subst (λ (c : StateCode). Tells listed c (piece x buffer quota) before after p) there w.tells in
      absurd (has-entry s.a s.code listed s.closed s.carries (reach s.a s.a.start j.taken) s.state (piece x buffer quota) all before after p tells w.entry)
  ended_walk s (too_long long same) = absurd (omega (arith, size, good.few))

  -- serving keeps it so
  pub served_agrees : (after : List Mark) (r : Result Progress Refusal) → Outcome listed x.code (piece x buffer quota) before after r
      → Agrees (fed_journal j buffer (fed_told r after)) (walked x r) listed (Some k) × TookAll (min quota j.waiting) (fed_told r after)
  served_agrees after r outcome = ended_walk (agrees.stands k refl) (ends listed x.code (piece x buffer quota) before after r outcome)
