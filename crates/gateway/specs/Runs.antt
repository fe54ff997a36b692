-- Whole runs of calls of a gateway. Assumes nothing.
use Rattle.std.specs.Prelude.{◌≡◌, ℕ, ◌≤◌, Bool, true, List, [], ◌∷◌, ◌++◌, map, length, Ok, Err, Result, vec_items}
use Rattle.ternary.specs.declared.refusal.Refusal.{Refusal}
use Rattle.ternary.specs.declared.words.Mark.{Mark}
use Rattle.ternary.specs.declared.words.Progress.{Progress}
use Rattle.ternary.specs.Marks.{marked}
use Rattle.ternary.specs.Refusals.{number, values}
use Rattle.scanner.specs.Book.{Told, declined, fed}
use Rattle.gateway.specs.declared.words.Call.{Call}
use Rattle.gateway.specs.declared.words.Call.TheVariants.{Load, Open, Post, Turn, Close}
use Rattle.gateway.specs.declared.words.Done.{Done}
use Rattle.gateway.specs.declared.words.Done.TheVariants.{Accepted, Idle, Served}
use Rattle.table.specs.Filed.{filed}
use Rattle.gateway.specs.Gateways.{Seen, IsBlank, Asked, loading, opening, posting, turning, closing, Reply, refused, accepted, idle, served}
use Rattle.gateway.specs.Laws.{Event, Chain, Lawful}

-- what is asked by a call
abbrev pub asked : Call → Asked
asked (Load f) = loading (filed f) (vec_items f.image)
asked (Open coach) = opening coach
asked (Post coach part) = posting coach part.place part.length
asked (Turn t) = turning (vec_items t.buffer) t.slots t.quota
asked (Close coach) = closing coach

-- what a walk told, of which these are the marks
abbrev pub walk_told : Result Progress Refusal → List Mark → Told
walk_told (Ok p) ms =
    fed p.taken p.marks (map marked ms) p.code.0 p.marks_full p.searches
walk_told (Err why) ms = declined (number why) (values why)

-- what is replied by a call that is not refused
abbrev pub done_of : Done → Reply
done_of Accepted = accepted
done_of Idle = idle
done_of (Served s ms) = served s.coach (walk_told s.walk (vec_items ms))

-- what a call answers: what it did, or a refusal
abbrev pub Answer : Type 0
Answer = Result Done Refusal

-- what is replied by an answer
abbrev pub replied : Answer → Reply
replied (Ok done) = done_of done
replied (Err why) = refused (number why) (values why)

-- calls with their answers, as far as there are both
abbrev pub events : List Call → List Answer → List Event
events [] answers = []
events (call ∷ calls) [] = []
events (call ∷ calls) (answer ∷ answers) =
    (asked call, replied answer) ∷ events calls answers

-- a run on a new gateway over a card of this capacity puts its answers behind those that are there:
-- all of them, or for want of memory those of the first calls
pub record Ran (capacity : ℕ) (calls : List Call) (before after : List Answer) (whole : Bool)
    : Type 0 where
  pub answers : List Answer
  pub added : after ≡ before ++ answers
  pub few : length answers ≤ length calls
  pub all : whole ≡ true → length answers ≡ length calls
  -- the answers are those of a gateway that was new, call by call
  pub first : Seen
  pub last : Seen
  pub size : first.capacity ≡ capacity
  pub blank : IsBlank first
  pub chain : Chain first (events calls answers) last
  -- each coach's marks are the automaton's own over its own bytes, each turn takes its part, and no
  -- coach waits longer than 64 accepted turns
  pub lawful : Lawful (events calls answers)
