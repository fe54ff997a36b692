-- What reading owes, in words of the automaton: laws above the format's definitions. Assumes nothing.
use Rattle.std.specs.Prelude.{◌≡◌, ℕ, ◌+◌, ◌*◌, ◌<◌, ◌≤◌, List, map, length, take, IfOk, Ok, Result, MatchResult, OnOk}
use Rattle.std.specs.List.{range_with_len, AllByRecursion}
use Rattle.ternary.specs.declared.refusal.Refusal.{Refusal}
use Rattle.ternary.specs.declared.words.StateNo.{StateNo}
use Rattle.fields.specs.Fields.{written}
use Rattle.automaton.specs.declared.words.ByteRange.{ByteRange}
use Rattle.automaton.specs.declared.words.Header.{Header}
use Rattle.automaton.specs.Runs.{Dfa}
use Rattle.automaton.specs.Limits.{Handed, Within, dfa}
use Rattle.automaton.specs.File.{StateRecord, Source, state_no, rows, classes, encode, decode}

-- a range of an automaton of n states
abbrev pub RangeOk : ℕ → ByteRange → Type 0
RangeOk n r = (r.low ≤ r.high) × (r.high < 256) × (r.next.0 < n)

-- a record of an automaton of n states, whose length fits two bytes
abbrev pub RecordOk : ℕ → StateRecord → Type 0
RecordOk n s = (s.class < 256) × (s.default.0 < n) × (3 + 4 * length s.ranges < 65536) × AllByRecursion (RangeOk n) s.ranges

-- a source within the limits of the format
abbrev pub SourceOk : Source → Type 0
SourceOk a = (1 ≤ length a.states) × (length a.states ≤ 512) × (a.start < length a.states) × AllByRecursion (RecordOk (length a.states)) a.states

-- there are places for the successors and the classes of n states
abbrev pub Room : ℕ → List StateNo → List ℕ → Type 0
Room n successors marks = (256 * n ≤ length successors) × (n ≤ length marks)

-- an automaton within the limits
pub record Sound (a : Dfa) : Type 0 where
  pub some : 1 ≤ a.states
  pub few : a.states ≤ 512
  pub start_below : a.start < a.states
  pub next_below : (s b : ℕ) → s < a.states → b < 256 → a.next s b < a.states
  pub class_byte : (s : ℕ) → s < a.states → a.class s < 256

-- a range of one byte
abbrev pub one_byte : Dfa → ℕ → ℕ → ByteRange
one_byte a s b = record { low = b; high = b; next = state_no (a.next s b) }

-- the record of a state, one range a byte
abbrev pub record_of : Dfa → ℕ → StateRecord
record_of a s = record { class = a.class s; default = state_no 0; ranges = map (one_byte a s) (range_with_len 0 256) }

-- the source of an automaton, one range a byte
abbrev pub source_of : Dfa → Source
source_of a = record { start = a.start; states = map (record_of a) (range_with_len 0 a.states) }

-- the file of an automaton
abbrev pub file_of : Dfa → List ℕ
file_of a = encode (source_of a)

-- two automata agree on their states
pub record Same (a b : Dfa) : Type 0 where
  pub states : a.states ≡ b.states
  pub start : a.start ≡ b.start
  pub next : (s c : ℕ) → s < b.states → c < 256 → a.next s c ≡ b.next s c
  pub class : (s : ℕ) → s < b.states → a.class s ≡ b.class s

-- the automaton in the first places of two buffers
abbrev pub held_in : Header → List StateNo → List ℕ → Handed
held_in h successors marks = record { states = h.states; start = h.start.0; successors = take (256 * h.states) successors; classes = take h.states marks }

-- what a reading owes: the file, its answer, and both buffers before and after
module _ (file : List ℕ) (answer : Result Header Refusal) (successors successors' : List StateNo) (marks marks' : List ℕ) where
  -- what is handed out keeps the automaton's limits
  abbrev pub KeepsLimits : Type 0
  KeepsLimits = IfOk answer (λ h. Within (held_in h successors' marks'))

  -- a file that is accepted says a source within the limits, and is that source's file
  abbrev pub IsItsSourcesFile : Type 0
  IsItsSourcesFile = OnOk answer (SourceOk (decode file) × (encode (decode file) ≡ file))

  -- whatever source within the limits the file was written from is given back
  abbrev pub GivesSourceBack : Type 0
  GivesSourceBack = (a : Source) → SourceOk a → file ≡ encode a → Room (length a.states) successors marks
      → (answer ≡ Ok (record { states = length a.states; start = state_no a.start })) × (successors' ≡ written successors 0 (rows a)) × (marks' ≡ written marks 0 (classes a))

  -- every automaton within the limits is read back from its file
  abbrev pub GivesAutomatonBack : Type 0
  GivesAutomatonBack = (a : Dfa) → Sound a → file ≡ file_of a → Room a.states successors marks
      → MatchResult answer (λ h. Same (dfa (held_in h successors' marks')) a) (λ _. ⊥)
