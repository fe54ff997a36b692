-- What a run knows of the calls so far.
use Rattle.std.proofs.Common.{◌≡◌, ℕ, ◌+◌, ◌<◌, Bool, true, List, [], ◌∷◌, ◌++◌, map, length, get_or, take, is_ok, Err, Result, sym, refl, ap, ◌∙◌, subst}
use Rattle.std.proofs.lemmas.List.{take_more, map_push, length_push, append_assoc, append-nil}
use Rattle.std.proofs.lemmas.Bool.{false≢true}
use Rattle.scanner.specs.Book.{Book, blank}
use Rattle.scanner.specs.Scanners.{Seen, Keeps, KeepsOn}
use Rattle.commission.specs.declared.words.Call.{Call}
use Rattle.commission.specs.Journeys.{Answer, told, Turn, Turns, done, BookSays, Ran}
use Rattle.commission.proofs.Certain.{one_answer}
use Rattle.commission.proofs.Marking.{turns_push, marks_are_the_journeys, never_no_entry}

-- the first i calls were answered behind what was there as the book says, the scanner keeps the book, and its card has the capacity that it had
pub record SoFar (capacity : ℕ) (calls : List Call) (i : ℕ) (before after : List Answer) (s : Seen) : Type 0 where
  pub answers : List Answer
  pub added : after ≡ before ++ answers
  pub count : length answers ≡ i
  pub book : Book
  pub turns : Turns capacity blank (take i calls) (map told answers) book
  pub keeps : Keeps s book
  pub same : s.capacity ≡ capacity

-- no call yet
pub so_far_none : (calls : List Call) (before : List Answer) (s : Seen) → Keeps s blank → SoFar s.capacity calls 0 before before s
so_far_none calls before s keeps = record { answers = []; added = sym (append-nil before); count = refl; book = blank; turns = done; keeps = keeps; same = refl }

-- one call more
pub so_far_more : (capacity : ℕ) (calls : List Call) (i : ℕ) (before after later : List Answer) (s t : Seen) (call : Call) (answer : Answer)
    → i < length calls → call ≡ get_or calls i call → later ≡ after ++ answer ∷ [] → t.capacity ≡ s.capacity → KeepsOn (Turn s.capacity call) s (told answer) t
    → SoFar capacity calls i before after s → SoFar capacity calls (i + 1) before later t
so_far_more capacity calls i before after later s t call answer within read pushed same keeps so_far =
    let by : KeepsOn (Turn capacity call) s (told answer) t = subst (λ n. KeepsOn (Turn n call) s (told answer) t) so_far.same keeps in
    let one = by so_far.book so_far.keeps in
    let calls_are : take (i + 1) calls ≡ take i calls ++ call ∷ [] = take_more calls i call within ∙ ap (λ x. take i calls ++ x ∷ []) (sym read) in
    record {
      answers = so_far.answers ++ answer ∷ [];
      added = pushed ∙ ap (λ (xs : List Answer). xs ++ answer ∷ []) so_far.added ∙ append_assoc before so_far.answers (answer ∷ []);
      count = length_push so_far.answers answer ∙ ap (λ n. n + 1) so_far.count;
      book = one.page;
      turns =
          subst (λ xs. Turns capacity blank xs (map told (so_far.answers ++ answer ∷ [])) one.page) (sym calls_are)
          (subst (λ ts. Turns capacity blank (take i calls ++ call ∷ []) ts one.page) (sym (map_push told so_far.answers answer)) (turns_push call (told answer) so_far.turns one.answer));
      keeps = one.keeps;
      same = same ∙ so_far.same;
    }

-- what a run on a card of this size has done when it ends after the first i calls
pub so_far_ran : (size capacity : ℕ) (calls : List Call) (i : ℕ) (before after : List Answer) (s : Seen) (whole : Bool) → capacity ≡ size → (whole ≡ true → i ≡ length calls)
    → SoFar capacity calls i before after s → Ran size calls before after whole
so_far_ran size capacity calls i before after s whole is all so_far =
    let ts = map told so_far.answers in
    let cut : take i calls ≡ take (length so_far.answers) calls = ap (λ n. take n calls) (sym so_far.count) in
    let says : BookSays size (take (length so_far.answers) calls) ts =
    (so_far.book, subst (λ n. Turns n blank (take (length so_far.answers) calls) ts so_far.book) is (subst (λ xs. Turns capacity blank xs ts so_far.book) cut so_far.turns)) in
    record {
      answers = so_far.answers;
      added = so_far.added;
      all = λ w. so_far.count ∙ all w;
      lawful = record {
        book = says;
        journeys = marks_are_the_journeys size _ ts says;
        entry = never_no_entry size _ ts says;
        sole = λ us other. one_answer size _ us ts other says;
      };
    }

-- a run that breaks off for want of memory
pub so_far_broken : {E : Type 0} (size capacity : ℕ) (calls : List Call) (i : ℕ) (before after later : List Answer) (s : Seen) (r : Result (Unit {0}) E) (e : E) → capacity ≡ size → later ≡ after → r ≡ Err e
    → SoFar capacity calls i before after s → Ran size calls before later (is_ok r)
so_far_broken size capacity calls i before after later s r e is same err so_far =
    so_far_ran size capacity calls i before later s (is_ok r) is (λ w. absurd (false≢true (sym (ap is_ok err) ∙ w))) (subst (λ (xs : List Answer). SoFar capacity calls i before xs s) (sym same) so_far)
