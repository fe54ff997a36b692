-- What a scanner over two lent cards owes its owner over any series of calls. Assumes nothing.
use Rattle.std.specs.Prelude.{◌≡◌, ℕ, ◌<◌, Bool, List, [], ◌∷◌, ◌++◌, map, length, take, Some, None, Option, ◌≢◌, slice_index_or}
use Rattle.ternary.specs.declared.words.Progress.{Progress}
use Rattle.ternary.specs.Marks.{Marked}
use Rattle.automaton.specs.Limits.{Handed, dfa}
use Rattle.automaton.specs.Runs.{Dfa, marks, raised}
use Rattle.scanner.specs.Book.{Book, blank}
use Rattle.pair_scanner.specs.Book.{Told, declined, accepted, fed, Loads, Feeds, Restarts}
use Rattle.pair_walk.specs.Walks.{Searched}

-- ---- what is asked, and what is replied

-- a call with all that is passed to it but the two cards: an automaton, a two-byte image and a one-byte image to load; a piece and how many mark slots there are for it; or a restart
pub data Asked : Type 0 where
  loading : Handed → List ℕ → List ℕ → Asked
  feeding : List ℕ → ℕ → Asked
  restarting : Asked

-- what a call replies: refused, by the number and the values of a refusal; done; or walked, with how far the walk came and the marks that it wrote
pub data Reply : Type 0 where
  refused : ℕ → List ℕ → Reply
  done : Reply
  walked : Progress → List Marked → Reply

-- what of it the book tells: all but the number of searches
abbrev pub told : Reply → Told
told (refused n vs) = declined n vs
told done = accepted
told (walked p ms) = fed p.taken p.marks ms p.code.0 p.marks_full

-- ---- the journey book over a series of calls

-- one call: the book before it, what it is told, the book after it
abbrev pub Turn : ℕ → ℕ → Asked → Book → Told → Book → Type 0
Turn pair_capacity capacity (loading a two one) = Loads pair_capacity capacity a two one
Turn pair_capacity capacity (feeding piece slots) = Feeds piece slots
Turn pair_capacity capacity restarting = Restarts

-- calls one after another, with what each is told
pub data Turns (pair_capacity capacity : ℕ) : Book → List Asked → List Told → Book → Type 0 where
  ended : {book : Book} → Turns pair_capacity capacity book [] [] book
  then : {book next after : Book} {call : Asked} {calls : List Asked} {t : Told} {ts : List Told} → Turn pair_capacity capacity call book t next → Turns pair_capacity capacity next calls ts after → Turns pair_capacity capacity book (call ∷ calls) (t ∷ ts) after

-- the calls are told what the book says, which is blank beside a new scanner
abbrev pub BookSays : ℕ → ℕ → List Asked → List Told → Type 0
BookSays pair_capacity capacity calls ts = (after : Book) × Turns pair_capacity capacity blank calls ts after

-- ---- the marks

-- what calls and answers show since the latest accepted load or restart: the automaton of the latest accepted load, the bytes taken, and the marks, each place raised by the bytes taken before its piece
pub record Log : Type 0 where
  pub loaded : Option Dfa
  pub bytes : List ℕ
  pub placed : List Marked

-- nothing loaded, nothing taken, nothing marked
abbrev pub nothing : Log
nothing = record { loaded = None; bytes = []; placed = [] }

-- one call and its answer, entered in the log
abbrev pub entered : Log → Asked → Told → Log
entered log (loading a two one) (declined n vs) = log
entered log (loading a two one) accepted = record { loaded = Some (dfa a); bytes = []; placed = [] }
entered log (loading a two one) (fed n count ms code stopped) = log
entered log (feeding piece slots) (declined n vs) = log
entered log (feeding piece slots) accepted = log
entered log (feeding piece slots) (fed n count ms code stopped) =
    record { loaded = log.loaded; bytes = log.bytes ++ take n piece; placed = log.placed ++ raised (length log.bytes) ms }
entered log restarting (declined n vs) = log
entered log restarting accepted = record { loaded = log.loaded; bytes = []; placed = [] }
entered log restarting (fed n count ms code stopped) = log

-- the log of calls with their answers
abbrev pub logged : Log → List Asked → List Told → Log
logged log [] ts = log
logged log (call ∷ calls) [] = log
logged log (call ∷ calls) (t ∷ ts) = logged (entered log call t) calls ts

-- the marks are those of the automaton's run from its start over the bytes, and before a load there are none
abbrev pub MarksOf : Option Dfa → List ℕ → List Marked → Type 0
MarksOf None bytes ms = ms ≡ []
MarksOf (Some a) bytes ms = ms ≡ marks a a.start 0 bytes

-- after each call, all marks since the latest accepted load or restart are the automaton's own over all bytes taken since
abbrev pub MarksAreTheJourneys : List Asked → List Told → Type 0
MarksAreTheJourneys calls ts = (n : ℕ) → let log = logged nothing (take n calls) (take n ts) in MarksOf log.loaded log.bytes log.placed

-- no call is told number 7
abbrev pub NeverNoEntry : List Told → Type 0
NeverNoEntry ts = (n : ℕ) (vs : List ℕ) (d : Told) → n < length ts → slice_index_or ts n d ≢ declined 7 vs

-- ---- the searches

-- the searches of a feed that is answered: at least half the bytes taken, and no more than the piece has where marks do not stop it
abbrev pub SearchedCall : Asked → Reply → Type 0
SearchedCall (loading a two one) reply = Unit {0}
SearchedCall (feeding piece slots) (refused n vs) = Unit {0}
SearchedCall (feeding piece slots) done = Unit {0}
SearchedCall (feeding piece slots) (walked p ms) = Searched (length piece) p
SearchedCall restarting reply = Unit {0}

-- so of each call
abbrev pub AllSearched : List Asked → List Reply → Type 0
AllSearched [] replies = Unit {0}
AllSearched (call ∷ calls) [] = Unit {0}
AllSearched (call ∷ calls) (reply ∷ replies) = SearchedCall call reply × AllSearched calls replies

-- ---- all of it

-- what holds of calls of a scanner that was new, on cards of these capacities: each reply is the book's, the marks are the journeys', none is 7, the searches are few, and the book would say nothing else
pub record Lawful (pair_capacity capacity : ℕ) (calls : List Asked) (replies : List Reply) : Type 0 where
  pub book : BookSays pair_capacity capacity calls (map told replies)
  pub journeys : MarksAreTheJourneys calls (map told replies)
  pub entry : NeverNoEntry (map told replies)
  pub searches : AllSearched calls replies
  pub sole : (us : List Told) → BookSays pair_capacity capacity calls us → us ≡ map told replies
