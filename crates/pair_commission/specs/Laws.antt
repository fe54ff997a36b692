-- Series of calls, each as the clauses of load, feed or restart describe it, and nothing else between them. Assumes nothing.
use Rattle.std.specs.Prelude.{◌≡◌, ℕ, ◌<◌, true, List, [], ◌∷◌, map, length, take, is_err, None, Ok, Err, Option, Result}
use Rattle.std.specs.List.{AllByRecursion}
use Rattle.ternary.specs.declared.refusal.Refusal.{Refusal}
use Rattle.ternary.specs.declared.words.Mark.{Mark}
use Rattle.ternary.specs.declared.words.Progress.{Progress}
use Rattle.ternary.specs.Marks.{marked}
use Rattle.ternary.specs.Refusals.{number, values}
use Rattle.automaton.specs.Limits.{Handed}
use Rattle.pair_scanner.specs.declared.lent.Position.{Position}
use Rattle.pair_scanner.specs.Scanners.{Seen, moved, LoadAnswer, FeedAnswer, RestartAnswer}
use Rattle.pair_commission.specs.Journeys.{Asked, loading, feeding, restarting, Reply, refused, done, walked, Lawful}

-- ---- one call

-- what a load or a restart replies
abbrev pub done_reply : Result (Unit {0}) Refusal → Reply
done_reply (Ok u) = done
done_reply (Err why) = refused (number why) (values why)

-- what a feed replies, with the marks that it left in the buffer
abbrev pub walk_reply : Result Progress Refusal → List Mark → Reply
walk_reply (Ok p) after = walked p (map marked (take p.marks after))
walk_reply (Err why) after = refused (number why) (values why)

-- a load, by its clauses `answer` and `refused`
pub record LoadStep (a : Handed) (two one : List ℕ) (s : Seen) (reply : Reply) (next : Seen) : Type 0 where
  pub outcome : Result (Unit {0}) Refusal
  pub answer : LoadAnswer a two one s next outcome
  pub same : is_err outcome ≡ true → next ≡ s
  pub replies : reply ≡ done_reply outcome

-- a feed over a buffer of so many marks, whatever these are, by its clause `answer`: both cards stay as they were
pub record FeedStep (piece : List ℕ) (slots : ℕ) (s : Seen) (reply : Reply) (next : Seen) : Type 0 where
  pub bytes : AllByRecursion (λ b. b < 256) piece
  pub buffer : List Mark
  pub after : List Mark
  pub count : length buffer ≡ slots
  pub outcome : Result Progress Refusal
  pub position : Option Position
  pub answer : FeedAnswer s.pair_list s.list s.position position piece buffer after outcome
  pub leaves : next ≡ moved s position
  pub replies : reply ≡ walk_reply outcome after

-- a restart, by its clause `answer`: both cards stay as they were
pub record RestartStep (s : Seen) (reply : Reply) (next : Seen) : Type 0 where
  pub outcome : Result (Unit {0}) Refusal
  pub position : Option Position
  pub answer : RestartAnswer s.position position outcome
  pub leaves : next ≡ moved s position
  pub replies : reply ≡ done_reply outcome

-- one call of a scanner: what is to be seen of it and of the cards that it is lent, what is asked and replied, what is to be seen after it
abbrev pub Step : Seen → Asked → Reply → Seen → Type 0
Step s (loading a two one) reply next = LoadStep a two one s reply next
Step s (feeding piece slots) reply next = FeedStep piece slots s reply next
Step s restarting reply next = RestartStep s reply next

-- ---- series of calls

-- calls one after another, with what is to be seen before the first and after the last: each call finds the scanner and both cards as the one before left them
pub data Chain : Seen → List Asked → List Reply → Seen → Type 0 where
  ended : {s : Seen} → Chain s [] [] s
  then : {s next last : Seen} {call : Asked} {reply : Reply} {calls : List Asked} {replies : List Reply} → Step s call reply next → Chain next calls replies last → Chain s (call ∷ calls) (reply ∷ replies) last

-- every such series of a scanner that was new is lawful, whatever its cards held, and by whomever the calls are made
abbrev pub EveryChainIsLawful : Type 0
EveryChainIsLawful = (first last : Seen) (calls : List Asked) (replies : List Reply) → first.position ≡ None → Chain first calls replies last → Lawful first.pair_capacity first.capacity calls replies
