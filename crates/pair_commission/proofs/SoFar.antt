-- What a run knows of the calls so far.
use Rattle.std.proofs.Common.{◌≡◌, ℕ, ◌+◌, ◌<◌, Bool, true, List, [], ◌∷◌, ◌++◌, map, length, get_or, take, is_ok, None, Err, Result, sym, refl, ap, ◌∙◌, subst, arith}
use Rattle.std.proofs.lemmas.List.{take_more, map_push, length_push, append_assoc, append-nil}
use Rattle.std.proofs.lemmas.Bool.{false≢true}
use Rattle.pair_scanner.specs.Scanners.{Seen}
use Rattle.pair_commission.specs.declared.words.Call.{Call}
use Rattle.pair_commission.specs.Journeys.{Asked, Reply, Lawful}
use Rattle.pair_commission.specs.Laws.{Step, Chain, ended, then}
use Rattle.pair_commission.specs.Runs.{Answer, asked, replied, Ran}
use Rattle.pair_commission.proofs.Keeping.{lawful_of}

-- one call more in a chain
chain_push : {s mid last : Seen} {calls : List Asked} {replies : List Reply} (call : Asked) (reply : Reply) → Chain s calls replies mid → Step mid call reply last → Chain s (calls ++ call ∷ []) (replies ++ reply ∷ []) last
chain_push call reply ended step = then step ended
chain_push call reply (then first rest) step = then first (chain_push call reply rest step)

-- the first i calls were answered behind what was there, as a scanner that was new answers them on cards of these capacities
pub record SoFar (pair_capacity capacity : ℕ) (calls : List Call) (i : ℕ) (before after : List Answer) (s : Seen) : Type 0 where
  pub answers : List Answer
  pub added : after ≡ before ++ answers
  pub count : length answers ≡ i
  pub first : Seen
  pub pair_size : first.pair_capacity ≡ pair_capacity
  pub size : first.capacity ≡ capacity
  pub unloaded : first.position ≡ None
  pub chain : Chain first (map asked (take i calls)) (map replied answers) s

-- no call yet
pub so_far_none : (calls : List Call) (before : List Answer) (s : Seen) → s.position ≡ None → SoFar s.pair_capacity s.capacity calls 0 before before s
so_far_none calls before s none = record { answers = []; added = sym (append-nil before); count = refl; first = s; pair_size = refl; size = refl; unloaded = none; chain = ended }

-- one call more
pub so_far_more : (pair_capacity capacity : ℕ) (calls : List Call) (i : ℕ) (before after later : List Answer) (s t : Seen) (call : Call) (answer : Answer)
    → i < length calls → call ≡ get_or calls i call → later ≡ after ++ answer ∷ [] → Step s (asked call) (replied answer) t
    → SoFar pair_capacity capacity calls i before after s → SoFar pair_capacity capacity calls (i + 1) before later t
so_far_more pair_capacity capacity calls i before after later s t call answer within read pushed step so_far =
    let calls_are : take (i + 1) calls ≡ take i calls ++ call ∷ [] = take_more calls i call within ∙ ap (λ x. take i calls ++ x ∷ []) (sym read) in
    record {
      answers = so_far.answers ++ answer ∷ [];
      added = pushed ∙ ap (λ (xs : List Answer). xs ++ answer ∷ []) so_far.added ∙ append_assoc before so_far.answers (answer ∷ []);
      count = length_push so_far.answers answer ∙ ap (λ n. n + 1) so_far.count;
      first = so_far.first;
      pair_size = so_far.pair_size;
      size = so_far.size;
      unloaded = so_far.unloaded;
      chain =
          subst (λ (xs : List Call). Chain so_far.first (map asked xs) (map replied (so_far.answers ++ answer ∷ [])) t) (sym calls_are)
          (subst (λ (xs : List Asked). Chain so_far.first xs (map replied (so_far.answers ++ answer ∷ [])) t) (sym (map_push asked (take i calls) call))
          (subst (λ (rs : List Reply). Chain so_far.first (map asked (take i calls) ++ asked call ∷ []) rs t) (sym (map_push replied so_far.answers answer)) (chain_push (asked call) (replied answer) so_far.chain step)));
    }

-- what a run on cards of these sizes has done when it ends after the first i calls
pub so_far_ran : (pair_size size : ℕ) (calls : List Call) (i : ℕ) (before after : List Answer) (s : Seen) (whole : Bool) → (whole ≡ true → i ≡ length calls)
    → SoFar pair_size size calls i before after s → Ran pair_size size calls before after whole
so_far_ran pair_size size calls i before after s whole all so_far =
    let made : List Asked = map asked (take (length so_far.answers) calls) in
    let chain : Chain so_far.first made (map replied so_far.answers) s =
    subst (λ (n : ℕ). Chain so_far.first (map asked (take n calls)) (map replied so_far.answers) s) (sym so_far.count) so_far.chain in
    record {
      answers = so_far.answers;
      added = so_far.added;
      all = λ w. so_far.count ∙ all w;
      first = so_far.first;
      last = s;
      pair_size = so_far.pair_size;
      size = so_far.size;
      unloaded = so_far.unloaded;
      chain = chain;
      lawful =
          subst (λ (n : ℕ). Lawful n size made (map replied so_far.answers)) so_far.pair_size
          (subst (λ (n : ℕ). Lawful so_far.first.pair_capacity n made (map replied so_far.answers)) so_far.size (lawful_of so_far.first s made (map replied so_far.answers) so_far.unloaded chain));
    }

-- a run that breaks off for want of memory
pub so_far_broken : {E : Type 0} (pair_size size : ℕ) (calls : List Call) (i : ℕ) (before after later : List Answer) (s : Seen) (r : Result (Unit {0}) E) (e : E) → later ≡ after → r ≡ Err e
    → SoFar pair_size size calls i before after s → Ran pair_size size calls before later (is_ok r)
so_far_broken pair_size size calls i before after later s r e same err so_far =
    so_far_ran pair_size size calls i before later s (is_ok r) (λ w. absurd (false≢true (sym (ap is_ok err) ∙ w))) (subst (λ (xs : List Answer). SoFar pair_size size calls i before xs s) (sym same) so_far)
