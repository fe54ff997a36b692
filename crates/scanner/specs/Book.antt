-- The journey book: what a scanner owes its owner, call by call. Assumes nothing.
use Rattle.std.specs.Prelude.{ℕ, ◌<◌, ◌≤◌, Bool, List, [], ◌++◌, length, take, nat_lt}
use Rattle.ternary.specs.declared.words.StateCode.{StateCode}
use Rattle.ternary.specs.Marks.{Marked}
use Rattle.automaton.specs.Limits.{Handed, dfa}
use Rattle.automaton.specs.Runs.{Dfa, reach, marks}
use Rattle.image.specs.Format.{decode}
use Rattle.table.specs.Acceptance.{code_of, Acceptable, Refuses}
use Rattle.scanner.specs.Walks.{longest, searches_for}

-- what a call is told: declined, by the number and the values of a refusal; accepted; or fed, by the bytes taken, how many marks they gave, these marks with their places in the piece, the code reached, whether marks stopped it, and the searches
pub data Told : Type 0 where
  declined : ℕ → List ℕ → Told
  accepted : Told
  fed : ℕ → ℕ → List Marked → ℕ → Bool → ℕ → Told

-- the book is blank, or holds the loaded automaton, the code of each of its states, and all bytes taken since
pub data Book : Type 0 where
  blank : Book
  filled : Dfa → (ℕ → StateCode) → List ℕ → Book

-- why a load declines, by the number and the values of its refusal: as a check does, and then if the entries exceed the card's capacity
pub data LoadRefuses (capacity : ℕ) (a : Handed) (image : List ℕ) : ℕ → List ℕ → Type 0 where
  unchecked : {n : ℕ} {vs : List ℕ} → Refuses a image n vs → LoadRefuses capacity a image n vs
  too_small : Acceptable a image → capacity < length (decode image).entries → LoadRefuses capacity a image 6 []

-- a load: declined, or the automaton and the image's codes are entered with no byte
pub data Loads (capacity : ℕ) (a : Handed) (image : List ℕ) : Book → Told → Book → Type 0 where
  declines : {book : Book} {n : ℕ} {vs : List ℕ} → LoadRefuses capacity a image n vs → Loads capacity a image book (declined n vs) book
  enters : {book : Book} → Acceptable a image → length (decode image).entries ≤ capacity → Loads capacity a image book accepted (filled (dfa a) (code_of (decode image)) [])

-- n is the most leading bytes of a piece whose new marks, in the automaton's run from the state s, fit the slots
pub record MostBytes (a : Dfa) (s : ℕ) (piece : List ℕ) (slots n : ℕ) : Type 0 where
  pub within : n ≤ length piece
  pub fits : length (marks a s 0 (take n piece)) ≤ slots
  pub most : (m : ℕ) → m ≤ length piece → length (marks a s 0 (take m piece)) ≤ slots → m ≤ n

-- what a feed that takes n bytes of a piece from the state s is told: marks stopped it exactly where bytes are left
abbrev pub report : Dfa → (ℕ → StateCode) → ℕ → List ℕ → ℕ → Told
report a code s piece n = fed n (length (marks a s 0 (take n piece))) (marks a s 0 (take n piece)) (code (reach a s (take n piece))).0 (nat_lt n (length piece)) (searches_for n (length piece))

-- a feed: nothing is loaded, the piece is too long, or the most bytes that fit are added to those taken
pub data Feeds (piece : List ℕ) (slots : ℕ) : Book → Told → Book → Type 0 where
  unloaded : Feeds piece slots blank (declined 8 []) blank
  too_long : {a : Dfa} {code : ℕ → StateCode} {bytes : List ℕ} → longest < length piece → Feeds piece slots (filled a code bytes) (declined 9 []) (filled a code bytes)
  takes : {a : Dfa} {code : ℕ → StateCode} {bytes : List ℕ} (n : ℕ) → length piece ≤ longest → MostBytes a (reach a a.start bytes) piece slots n
      → Feeds piece slots (filled a code bytes) (report a code (reach a a.start bytes) piece n) (filled a code (bytes ++ take n piece))

-- a restart: nothing is loaded, or the bytes are dropped
pub data Restarts : Book → Told → Book → Type 0 where
  unloaded : Restarts blank (declined 8 []) blank
  drops : {a : Dfa} {code : ℕ → StateCode} {bytes : List ℕ} → Restarts (filled a code bytes) accepted (filled a code [])
