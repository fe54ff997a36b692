-- Whole runs of calls of a scanner over two lent cards. Assumes nothing.
use Rattle.std.specs.Prelude.{◌≡◌, ℕ, Bool, true, List, ◌++◌, map, length, take, None, Ok, Err, Result, vec_items}
use Rattle.ternary.specs.declared.refusal.Refusal.{Refusal}
use Rattle.ternary.specs.Marks.{marked}
use Rattle.ternary.specs.Refusals.{number, values}
use Rattle.automaton.specs.Limits.{Handed}
use Rattle.pair_scanner.specs.Scanners.{Seen}
use Rattle.pair_commission.specs.declared.words.Filing.{Filing}
use Rattle.pair_commission.specs.declared.words.Call.{Call}
use Rattle.pair_commission.specs.declared.words.Call.TheVariants.{Load, Feed, Restart}
use Rattle.pair_commission.specs.declared.words.Done.{Done}
use Rattle.pair_commission.specs.declared.words.Done.TheVariants.{Accepted, Fed}
use Rattle.pair_commission.specs.Journeys.{Asked, loading, feeding, restarting, Reply, refused, done, walked, Lawful}
use Rattle.pair_commission.specs.Laws.{Chain}

-- the automaton that is filed
abbrev pub filed : Filing → Handed
filed f = record { states = f.states; start = f.start.0; successors = vec_items f.successors; classes = vec_items f.classes }

-- what is asked by a call
abbrev pub asked : Call → Asked
asked (Load f) = loading (filed f) (vec_items f.two) (vec_items f.one)
asked (Feed piece slots) = feeding (vec_items piece) slots
asked Restart = restarting

-- what a call answers: what it did, or a refusal
abbrev pub Answer : Type 0
Answer = Result Done Refusal

-- what is replied by a call that is not refused
abbrev pub done_of : Done → Reply
done_of Accepted = done
done_of (Fed p ms) = walked p (map marked (vec_items ms))

-- what is replied by an answer
abbrev pub replied : Answer → Reply
replied (Ok d) = done_of d
replied (Err why) = refused (number why) (values why)

-- a run on a new scanner, with two cards of these capacities lent to each call, puts its answers behind those that are there: all of them, or for want of memory those of the first calls
pub record Ran (pair_capacity capacity : ℕ) (calls : List Call) (before after : List Answer) (whole : Bool) : Type 0 where
  pub answers : List Answer
  pub added : after ≡ before ++ answers
  pub all : whole ≡ true → length answers ≡ length calls
  -- the answers are those of a scanner that was new, call by call
  pub first : Seen
  pub last : Seen
  pub pair_size : first.pair_capacity ≡ pair_capacity
  pub size : first.capacity ≡ capacity
  pub unloaded : first.position ≡ None
  pub chain : Chain first (map asked (take (length answers) calls)) (map replied answers) last
  -- each reply is the journey book's, all marks are the automaton's own, no call is told 7, and the searches are few
  pub lawful : Lawful pair_capacity capacity (map asked (take (length answers) calls)) (map replied answers)
