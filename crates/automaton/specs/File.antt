-- The automaton file: what it says, its bytes, its first fault, and the buffers that reading fills. Assumes nothing.
use Rattle.std.specs.Prelude.{ℕ, zero, suc, ◌+◌, ◌*◌, ◌/◌, ◌%◌, Bool, cond, ◌&&◌, List, [], ◌∷◌, ◌++◌, map, length, drop, is_ok, Ok, Err, Option, Result, ◌==◌, nat_le, nat_lt, slice_index}
use Rattle.std.specs.List.{range_with_len, flat_map}
use Rattle.ternary.specs.declared.refusal.Refusal.{Refusal}
use Rattle.ternary.specs.declared.refusal.Refusal.TheVariants.{OutputTooShort}
use Rattle.ternary.specs.Refusals.{refuse_or}
use Rattle.ternary.specs.declared.words.StateNo.{StateNo}
use Rattle.fields.specs.Fields.{word, be16, be32, written, check, or_else, first_of, each_fault, frame_fault}
use Rattle.automaton.specs.declared.words.ByteRange.{ByteRange}
use Rattle.automaton.specs.declared.file.record.Record.{Record}
use Rattle.automaton.specs.declared.words.Header.{Header}

-- the state of a number
abbrev pub state_no : ℕ → StateNo
state_no n = record { 0 = n }

-- a state's record: its class, and its successors by ranges of bytes and a default
pub record StateRecord : Type 0 where
  pub class : ℕ
  pub default : StateNo
  pub ranges : List ByteRange

-- what a file says: the start state, and a record for each state
pub record Source : Type 0 where
  pub start : ℕ
  pub states : List StateRecord

-- What a file means

-- a range holds a byte
abbrev pub in_range : ByteRange → ℕ → Bool
in_range r byte = nat_le r.low byte && nat_le byte r.high

-- the successor on a byte: the first range that holds the byte decides, else the default
abbrev pub next_by : List ByteRange → StateNo → ℕ → StateNo
next_by [] default byte = default
next_by (r ∷ rs) default byte = cond (in_range r byte) r.next (next_by rs default byte)

-- the 256 successors of a state
abbrev pub row_of : StateRecord → List StateNo
row_of s = map (next_by s.ranges s.default) (range_with_len 0 256)

-- the class of a state
abbrev pub class_of : StateRecord → ℕ
class_of s = s.class

-- the successors of all states, state by state
abbrev pub rows : Source → List StateNo
rows a = flat_map row_of a.states

-- the classes of all states
abbrev pub classes : Source → List ℕ
classes a = map class_of a.states

-- The bytes of a file

-- a range: lowest byte, highest byte, successor
abbrev pub range_bytes : ByteRange → List ℕ
range_bytes r = r.low ∷ r.high ∷ be16 r.next.0

-- a record: the length of what follows it, class, default successor, ranges
abbrev pub record_bytes : StateRecord → List ℕ
record_bytes s = be16 (3 + 4 * length s.ranges) ++ (s.class ∷ be16 s.default.0 ++ flat_map range_bytes s.ranges)

-- what follows the length of the rest: number of states, start state, records
abbrev pub body : Source → List ℕ
body a = be16 (length a.states) ++ (be16 a.start ++ flat_map record_bytes a.states)

-- a file: version 1, length of the rest, the rest
abbrev pub encode : Source → List ℕ
encode a = 1 ∷ be32 (length (body a)) ++ body a

-- What bytes say

-- the k-th of the ranges in some bytes
abbrev pub range_at : List ℕ → ℕ → ByteRange
range_at bs k = record { low = slice_index bs (4 * k); high = slice_index bs (4 * k + 1); next = state_no (word bs (4 * k + 2)) }

-- the first n ranges in some bytes
abbrev pub ranges_in : List ℕ → ℕ → List ByteRange
ranges_in bs n = map (range_at bs) (range_with_len 0 n)

-- the range that four bytes say
abbrev pub range_of : List ℕ → ByteRange
range_of bs = range_at bs 0

-- what a record that was taken apart says
abbrev pub said : Record → StateRecord
said r = record { class = r.class; default = r.default; ranges = map range_of r.ranges.now }

-- how many bytes a record takes: its length and the two bytes that say it
abbrev pub record_size : List ℕ → ℕ
record_size rest = 2 + word rest 0

-- the record that some bytes begin with
abbrev pub record_in : List ℕ → StateRecord
record_in rest = record { class = slice_index rest 2; default = state_no (word rest 3); ranges = ranges_in (drop 5 rest) (word rest 0 / 4) }

-- the n records that some bytes begin with
abbrev pub records_in : ℕ → List ℕ → List StateRecord
records_in zero rest = []
records_in (suc n) rest = record_in rest ∷ records_in n (drop (record_size rest) rest)

-- what a file says
abbrev pub decode : List ℕ → Source
decode file = record { start = word file 7; states = records_in (word file 5) (drop 9 file) }

-- The first field that breaks a rule

-- of a range at `at`, in a file of n states: the lowest byte above the highest, a successor that is no state
abbrev pub range_fault : ℕ → ℕ → ByteRange → Option ℕ
range_fault n at r = first_of (check (nat_le r.low r.high) at ∷ check (nat_lt r.next.0 n) (at + 2) ∷ [])

-- a record's length is 3 and a multiple of 4, and within the file
abbrev pub length_fits : List ℕ → Bool
length_fits rest = nat_le (record_size rest) (length rest) && word rest 0 % 4 == 3

-- of what a record at `at` says: its default, its ranges
abbrev pub parts_fault : ℕ → ℕ → StateRecord → Option ℕ
parts_fault n at s = or_else (check (nat_lt s.default.0 n) (at + 3)) (each_fault (range_fault n) 4 (at + 5) s.ranges)

-- of the record at `at`: its length, then what it says
abbrev pub record_fault : ℕ → ℕ → List ℕ → Option ℕ
record_fault n at rest = or_else (check (length_fits rest) at) (parts_fault n at (record_in rest))

-- of the records that are left, `rest` being the file from `at` on: a record, or a byte after the last
abbrev pub records_fault : ℕ → ℕ → ℕ → List ℕ → Option ℕ
records_fault n zero at rest = check (length rest == 0) at
records_fault n (suc left) at rest = or_else (record_fault n at rest) (records_fault n left (at + record_size rest) (drop (record_size rest) rest))

-- of what follows the length of the rest: number of states, start state, records
abbrev pub fields_fault : List ℕ → Option ℕ
fields_fault file = first_of (
    check (nat_le 1 (word file 5) && nat_le (word file 5) 512) 5 ∷
    check (nat_lt (word file 7) (word file 5)) 7 ∷
    records_fault (word file 5) (word file 5) 9 (drop 9 file) ∷ [])

-- of a file: fewer than nine bytes are refused at their number, then version, length of the rest, and what follows it
abbrev pub fault : List ℕ → Option ℕ
fault file = or_else (frame_fault 4 file) (fields_fault file)

-- What reading answers and leaves

-- the number of states and the start state that a file says
abbrev pub header_of : List ℕ → Header
header_of file = record { states = word file 5; start = state_no (word file 7) }

-- there are places for the successors and the classes of n states
abbrev pub room_for : ℕ → ℕ → ℕ → Bool
room_for n successors classes = nat_le (256 * n) successors && nat_le n classes

-- the answer, by the lengths of the two buffers: a fault, then a buffer that is too short, else the header
abbrev pub read_answer : List ℕ → ℕ → ℕ → Result Header Refusal
read_answer file successors classes = refuse_or (fault file) (cond (room_for (word file 5) successors classes) (Ok (header_of file)) (Err OutputTooShort))

-- what a buffer holds afterwards: the values over its first places if the file was accepted, else what it held
abbrev pub filled : {X : Type 0} → Result Header Refusal → List X → List X → List X
filled answer buffer values = cond (is_ok answer) (written buffer 0 values) buffer
