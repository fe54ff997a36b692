-- What a scanner owes its owner over whole runs of calls. Assumes nothing.
use Rattle.std.specs.Prelude.{◌≡◌, ℕ, ◌<◌, Bool, true, List, [], ◌∷◌, ◌++◌, map, length, take, Some, None, Ok, Err, Result, vec_items, Option, ◌≢◌, slice_index_or}
use Rattle.ternary.specs.Marks.{Marked, marked}
use Rattle.ternary.specs.Refusals.{number, values}
use Rattle.automaton.specs.Limits.{dfa}
use Rattle.automaton.specs.Runs.{Dfa, marks, raised}
use Rattle.scanner.specs.Book.{Told, declined, accepted, fed, Book, blank, Loads, Feeds, Restarts}
use Rattle.table.specs.Filed.{filed}
use Rattle.commission.specs.declared.words.Call.{Call}
use Rattle.commission.specs.declared.words.Call.TheVariants.{Load, Feed, Restart}
use Rattle.commission.specs.declared.words.Done.{Done}
use Rattle.commission.specs.declared.words.Done.TheVariants.{Accepted, Fed}
use Rattle.ternary.specs.declared.refusal.Refusal.{Refusal}

-- ---- the journey book over a run

-- what a call that is not declined tells
abbrev pub told_done : Done → Told
told_done Accepted = accepted
told_done (Fed p ms) = fed p.taken p.marks (map marked (vec_items ms)) p.code.0 p.marks_full p.searches

-- what a call answers: what it did, or a refusal
abbrev pub Answer : Type 0
Answer = Result Done Refusal

-- what an answer tells
abbrev pub told : Answer → Told
told (Ok done) = told_done done
told (Err why) = declined (number why) (values why)

-- one call: the book before it, what it is told, the book after it
abbrev pub Turn : ℕ → Call → Book → Told → Book → Type 0
Turn capacity (Load f) = Loads capacity (filed f) (vec_items f.image)
Turn capacity (Feed piece slots) = Feeds (vec_items piece) slots
Turn capacity Restart = Restarts

-- calls one after another, with what each is told
pub data Turns (capacity : ℕ) : Book → List Call → List Told → Book → Type 0 where
  done : {book : Book} → Turns capacity book [] [] book
  then : {book next after : Book} {call : Call} {calls : List Call} {t : Told} {ts : List Told} → Turn capacity call book t next → Turns capacity next calls ts after → Turns capacity book (call ∷ calls) (t ∷ ts) after

-- the calls are told what the book says, which is blank beside a new scanner
abbrev pub BookSays : ℕ → List Call → List Told → Type 0
BookSays capacity calls ts = (after : Book) × Turns capacity blank calls ts after

-- ---- the marks of a run

-- what calls and answers show since the latest accepted load or restart: the automaton of the latest accepted load, the bytes taken, and the marks, each place raised by the bytes taken before its piece
pub record Log : Type 0 where
  pub loaded : Option Dfa
  pub bytes : List ℕ
  pub placed : List Marked

-- nothing loaded, nothing taken, nothing marked
abbrev pub nothing : Log
nothing = record { loaded = None; bytes = []; placed = [] }

-- one call and its answer, entered in the log
abbrev pub entered : Log → Call → Told → Log
entered log (Load f) (declined n vs) = log
entered log (Load f) accepted = record { loaded = Some (dfa (filed f)); bytes = []; placed = [] }
entered log (Load f) (fed n count ms code stopped searches) = log
entered log (Feed piece slots) (declined n vs) = log
entered log (Feed piece slots) accepted = log
entered log (Feed piece slots) (fed n count ms code stopped searches) =
    record { loaded = log.loaded; bytes = log.bytes ++ take n (vec_items piece); placed = log.placed ++ raised (length log.bytes) ms }
entered log Restart (declined n vs) = log
entered log Restart accepted = record { loaded = log.loaded; bytes = []; placed = [] }
entered log Restart (fed n count ms code stopped searches) = log

-- the log of calls with their answers
abbrev pub logged : Log → List Call → List Told → Log
logged log [] ts = log
logged log (call ∷ calls) [] = log
logged log (call ∷ calls) (t ∷ ts) = logged (entered log call t) calls ts

-- the marks are those of the automaton's run from its start over the bytes, and before a load there are none
abbrev pub MarksOf : Option Dfa → List ℕ → List Marked → Type 0
MarksOf None bytes ms = ms ≡ []
MarksOf (Some a) bytes ms = ms ≡ marks a a.start 0 bytes

-- after each call of a run, all marks since the latest accepted load or restart are the automaton's own over all bytes taken since
abbrev pub MarksAreTheJourneys : List Call → List Told → Type 0
MarksAreTheJourneys calls ts = (n : ℕ) → let log = logged nothing (take n calls) (take n ts) in MarksOf log.loaded log.bytes log.placed

-- no call is told number 7
abbrev pub NeverNoEntry : List Told → Type 0
NeverNoEntry ts = (n : ℕ) (vs : List ℕ) (d : Told) → n < length ts → slice_index_or ts n d ≢ declined 7 vs

-- what holds of a whole run on a card of this capacity: each answer is the book's, the marks are the journeys', none is 7, and the book would say nothing else
pub record Lawful (capacity : ℕ) (calls : List Call) (ts : List Told) : Type 0 where
  pub book : BookSays capacity calls ts
  pub journeys : MarksAreTheJourneys calls ts
  pub entry : NeverNoEntry ts
  pub sole : (us : List Told) → BookSays capacity calls us → us ≡ ts

-- ---- runs

-- a run puts its answers behind those that are there: all of them, or for want of memory those of the first calls
pub record Ran (capacity : ℕ) (calls : List Call) (before after : List Answer) (whole : Bool) : Type 0 where
  pub answers : List Answer
  pub added : after ≡ before ++ answers
  pub all : whole ≡ true → length answers ≡ length calls
  pub lawful : Lawful capacity (take (length answers) calls) (map told answers)
