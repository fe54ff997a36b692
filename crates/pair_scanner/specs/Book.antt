-- The journey book of a scanner over two cards: what it owes its owner, call by call. The number of searches stays out of it. Assumes nothing.
use Rattle.std.specs.Prelude.{◌≡◌, ℕ, ◌<◌, ◌≤◌, ◌⊎◌, Bool, List, [], ◌++◌, length, take, nat_lt}
use Rattle.ternary.specs.declared.words.StateCode.{StateCode}
use Rattle.ternary.specs.Marks.{Marked}
use Rattle.automaton.specs.Limits.{Handed, dfa}
use Rattle.automaton.specs.Runs.{Dfa, reach, marks}
use Rattle.image.specs.Format.{Parts, decode}
use Rattle.table.specs.Acceptance.{code_of, Acceptable, Refuses}
use Rattle.pair_image.specs.Format as pair
use Rattle.pair_table.specs.Acceptance as pairs
use Rattle.scanner.specs.Walks.{longest}
use Rattle.scanner.specs.Book.{Book, blank, filled, MostBytes}

-- what a call is told: declined, by the number and the values of a refusal; accepted; or fed, by the bytes taken, how many marks they gave, these marks with their places in the piece, the code reached, and whether marks stopped it
pub data Told : Type 0 where
  declined : ℕ → List ℕ → Told
  accepted : Told
  fed : ℕ → ℕ → List Marked → ℕ → Bool → Told

-- two images have the same code width and the same codes
abbrev pub SameCodes : pair.Parts → Parts → Type 0
SameCodes p q = (p.width ≡ q.width) × (p.codes ≡ q.codes)

-- why a load declines, by the number and the values of its refusal: as a check of the two-byte image does; as a check of the one-byte image does; if the code width or the codes differ; if the entries of an image exceed the capacity of its card
pub data LoadRefuses (pair_capacity capacity : ℕ) (a : Handed) (pair_image image : List ℕ) : ℕ → List ℕ → Type 0 where
  two_unchecked : {n : ℕ} {vs : List ℕ} → pairs.Refuses a pair_image n vs → LoadRefuses pair_capacity capacity a pair_image image n vs
  one_unchecked : {n : ℕ} {vs : List ℕ} → pairs.Acceptable a pair_image → Refuses a image n vs → LoadRefuses pair_capacity capacity a pair_image image n vs
  codes_differ : pairs.Acceptable a pair_image → Acceptable a image → (SameCodes (pair.decode pair_image) (decode image) → ⊥) → LoadRefuses pair_capacity capacity a pair_image image 22 []
  too_small : pairs.Acceptable a pair_image → Acceptable a image → SameCodes (pair.decode pair_image) (decode image)
      → (pair_capacity < length (pair.decode pair_image).entries) ⊎ (capacity < length (decode image).entries) → LoadRefuses pair_capacity capacity a pair_image image 6 []

-- both images are acceptable, have the same codes, and fit their cards
pub record Loadable (pair_capacity capacity : ℕ) (a : Handed) (pair_image image : List ℕ) : Type 0 where
  pub two : pairs.Acceptable a pair_image
  pub one : Acceptable a image
  pub same : SameCodes (pair.decode pair_image) (decode image)
  pub two_room : length (pair.decode pair_image).entries ≤ pair_capacity
  pub one_room : length (decode image).entries ≤ capacity

-- a load: declined, or the automaton and the images' codes are entered with no byte
pub data Loads (pair_capacity capacity : ℕ) (a : Handed) (pair_image image : List ℕ) : Book → Told → Book → Type 0 where
  declines : {book : Book} {n : ℕ} {vs : List ℕ} → LoadRefuses pair_capacity capacity a pair_image image n vs → Loads pair_capacity capacity a pair_image image book (declined n vs) book
  enters : {book : Book} → Loadable pair_capacity capacity a pair_image image → Loads pair_capacity capacity a pair_image image book accepted (filled (dfa a) (code_of (decode image)) [])

-- what a feed that takes n bytes of a piece from the state s is told: marks stopped it exactly where bytes are left
abbrev pub report : Dfa → (ℕ → StateCode) → ℕ → List ℕ → ℕ → Told
report a code s piece n = fed n (length (marks a s 0 (take n piece))) (marks a s 0 (take n piece)) (code (reach a s (take n piece))).0 (nat_lt n (length piece))

-- a feed: nothing is loaded, the piece is too long, or the most bytes that fit are added to those taken
pub data Feeds (piece : List ℕ) (slots : ℕ) : Book → Told → Book → Type 0 where
  unloaded : Feeds piece slots blank (declined 8 []) blank
  too_long : {a : Dfa} {code : ℕ → StateCode} {bytes : List ℕ} → longest < length piece → Feeds piece slots (filled a code bytes) (declined 9 []) (filled a code bytes)
  takes : {a : Dfa} {code : ℕ → StateCode} {bytes : List ℕ} (n : ℕ) → length piece ≤ longest → MostBytes a (reach a a.start bytes) piece slots n
      → Feeds piece slots (filled a code bytes) (report a code (reach a a.start bytes) piece n) (filled a code (bytes ++ take n piece))

-- a restart: nothing is loaded, or the bytes are dropped
pub data Restarts : Book → Told → Book → Type 0 where
  unloaded : Restarts blank (declined 8 []) blank
  drops : {a : Dfa} {code : ℕ → StateCode} {bytes : List ℕ} → Restarts (filled a code bytes) accepted (filled a code [])
