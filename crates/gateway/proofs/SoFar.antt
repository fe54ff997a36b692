-- What a run knows of the calls so far.
use Rattle.std.proofs.Common.{◌≡◌, ℕ, ◌+◌, ◌<◌, ◌≤◌, Bool, true, List, [], ◌∷◌, ◌++◌, length, get_or, take, is_ok, Err, Result, sym, refl, ap, ◌∙◌, subst, arith, length-take}
use Rattle.std.proofs.lemmas.List.{take_more, length_push, append_assoc, append-nil}
use Rattle.std.proofs.lemmas.Bool.{false≢true}
use Rattle.gateway.specs.declared.words.Call.{Call}
use Rattle.gateway.specs.Gateways.{Seen, IsBlank, Asked, Reply, Step}
use Rattle.gateway.specs.Laws.{Event, Chain, ended, then}
use Rattle.gateway.specs.Runs.{asked, Answer, replied, events, Ran}
use Rattle.gateway.proofs.Agreeing.{marks_are_own, each_takes}
use Rattle.gateway.proofs.Fairness.{is_fair}

-- one call more in a chain
chain_push : {s mid last : Seen} {es : List Event} (a : Asked) (r : Reply) → Chain s es mid → Step mid a r last → Chain s (es ++ (a, r) ∷ []) last
chain_push a r ended step = then step ended
chain_push a r (then first rest) step = then first (chain_push a r rest step)

-- one call more in the events
events_push : (calls : List Call) (answers : List Answer) (call : Call) (answer : Answer) → length calls ≡ length answers → events (calls ++ call ∷ []) (answers ++ answer ∷ []) ≡ events calls answers ++ (asked call, replied answer) ∷ []
events_push [] [] call answer same = refl
events_push [] (a ∷ answers) call answer same = absurd (omega arith)
events_push (c ∷ calls) [] call answer same = absurd (omega arith)
events_push (c ∷ calls) (a ∷ answers) call answer same = ap (λ (es : List Event). (asked c, replied a) ∷ es) (events_push calls answers call answer (omega arith))

-- events of calls that are answered
events_answered : (calls : List Call) (answers : List Answer) → events (take (length answers) calls) answers ≡ events calls answers
events_answered [] [] = refl
events_answered [] (a ∷ answers) = refl
events_answered (c ∷ calls) [] = refl
events_answered (c ∷ calls) (a ∷ answers) = ap (λ (es : List Event). (asked c, replied a) ∷ es) (events_answered calls answers)

-- the first i calls were answered behind what was there, as a gateway over a card of this capacity that was new answers them
pub record SoFar (capacity : ℕ) (calls : List Call) (i : ℕ) (before after : List Answer) (s : Seen) : Type 0 where
  pub answers : List Answer
  pub added : after ≡ before ++ answers
  pub count : length answers ≡ i
  pub within : i ≤ length calls
  pub first : Seen
  pub size : first.capacity ≡ capacity
  pub blank : IsBlank first
  pub chain : Chain first (events (take i calls) answers) s

-- no call yet
pub so_far_none : (calls : List Call) (before : List Answer) (s : Seen) → IsBlank s → SoFar s.capacity calls 0 before before s
so_far_none calls before s blank = record { answers = []; added = sym (append-nil before); count = refl; within = omega arith; first = s; size = refl; blank = blank; chain = ended }

-- one call more
pub so_far_more : (capacity : ℕ) (calls : List Call) (i : ℕ) (before after later : List Answer) (s t : Seen) (call : Call) (answer : Answer)
    → i < length calls → call ≡ get_or calls i call → later ≡ after ++ answer ∷ [] → Step s (asked call) (replied answer) t
    → SoFar capacity calls i before after s → SoFar capacity calls (i + 1) before later t
so_far_more capacity calls i before after later s t call answer within read pushed step so_far =
    let calls_are : take (i + 1) calls ≡ take i calls ++ call ∷ [] = take_more calls i call within ∙ ap (λ x. take i calls ++ x ∷ []) (sym read) in
    let same : length (take i calls) ≡ length so_far.answers = omega (arith, length-take i calls, so_far.count) in
    record {
      answers = so_far.answers ++ answer ∷ [];
      added = pushed ∙ ap (λ (xs : List Answer). xs ++ answer ∷ []) so_far.added ∙ append_assoc before so_far.answers (answer ∷ []);
      count = length_push so_far.answers answer ∙ ap (λ n. n + 1) so_far.count;
      within = omega (arith, within);
      first = so_far.first;
      size = so_far.size;
      blank = so_far.blank;
      chain =
          subst (λ xs. Chain so_far.first (events xs (so_far.answers ++ answer ∷ [])) t) (sym calls_are)
          (subst (λ (es : List Event). Chain so_far.first es t) (sym (events_push (take i calls) so_far.answers call answer same)) (chain_push (asked call) (replied answer) so_far.chain step));
    }

-- what a run on a card of this size has done when it ends after the first i calls
pub so_far_ran : (size capacity : ℕ) (calls : List Call) (i : ℕ) (before after : List Answer) (s : Seen) (whole : Bool) → capacity ≡ size → (whole ≡ true → i ≡ length calls)
    → SoFar capacity calls i before after s → Ran size calls before after whole
so_far_ran size capacity calls i before after s whole is all so_far =
    let chain : Chain so_far.first (events calls so_far.answers) s =
    subst (λ (es : List Event). Chain so_far.first es s) (ap (λ n. events (take n calls) so_far.answers) (sym so_far.count) ∙ events_answered calls so_far.answers) so_far.chain in
    record {
      answers = so_far.answers;
      added = so_far.added;
      few = omega (arith, so_far.count, so_far.within);
      all = λ w. so_far.count ∙ all w;
      first = so_far.first;
      last = s;
      size = so_far.size ∙ is;
      blank = so_far.blank;
      chain = chain;
      lawful = record {
        marks = marks_are_own so_far.first s _ so_far.blank chain;
        parts = each_takes so_far.first s _ so_far.blank chain;
        fair = is_fair so_far.first s _ so_far.blank chain;
      };
    }

-- a run that breaks off for want of memory
pub so_far_broken : {E : Type 0} (size capacity : ℕ) (calls : List Call) (i : ℕ) (before after later : List Answer) (s : Seen) (r : Result (Unit {0}) E) (e : E) → capacity ≡ size → later ≡ after → r ≡ Err e
    → SoFar capacity calls i before after s → Ran size calls before later (is_ok r)
so_far_broken size capacity calls i before after later s r e is same err so_far =
    so_far_ran size capacity calls i before later s (is_ok r) is (λ w. absurd (false≢true (sym (ap is_ok err) ∙ w))) (subst (λ (xs : List Answer). SoFar capacity calls i before xs s) (sym same) so_far)
