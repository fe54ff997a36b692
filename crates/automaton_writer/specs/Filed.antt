-- The file of an automaton, its successors written as ranges of bytes. Assumes nothing.
use Rattle.std.specs.Prelude.{◌≡◌, ℕ, zero, suc, ◌+◌, ◌-◌, ◌<◌, cond, List, [], ◌∷◌, ◌++◌, map, ◌==◌, slice_index_or}
use Rattle.std.specs.List.{range_with_len}
use Rattle.ternary.specs.declared.words.StateNo.{StateNo}
use Rattle.automaton.specs.declared.words.ByteRange.{ByteRange}
use Rattle.automaton.specs.File.{StateRecord, state_no, encode}
use Rattle.automaton.specs.Runs.{Dfa}

-- the range of the bytes from low to high, which lead to one state; none if that is the default
abbrev pub run_range : ℕ → ℕ → ℕ → ℕ → List ByteRange
run_range default low high to =
    cond (to == default) [] (record { low = low; high = high; next = state_no to } ∷ [])

-- the ranges of the bytes from low on, where those before `at` lead to one state, and `left` bytes
-- stand from `at` on: each run of bytes that lead to one state is a range
unfoldable pub ranges_from : (ℕ → ℕ) → ℕ → ℕ → ℕ → List ByteRange
ranges_from next low at zero = run_range (next 0) low (at - 1) (next low)
ranges_from next low at (suc left) =
    cond (next at == next low) (ranges_from next low (at + 1) left)
    (run_range (next 0) low (at - 1) (next low) ++ ranges_from next at (at + 1) left)

-- the ranges of all bytes
unfoldable pub ranges_of : (ℕ → ℕ) → List ByteRange
ranges_of next = ranges_from next 0 1 255

-- the record of a state: the default is where byte 0 leads
abbrev pub record_by : ℕ → (ℕ → ℕ) → StateRecord
record_by class next =
    record { class = class; default = state_no (next 0); ranges = ranges_of next }

-- the records of all states
abbrev pub records_of : Dfa → List StateRecord
records_of a = map (λ s. record_by (a.class s) (a.next s)) (range_with_len 0 a.states)

-- the file of an automaton
abbrev pub file_of : Dfa → List ℕ
file_of a = encode (record { start = a.start; states = records_of a })

-- the row has the successors
abbrev pub Leads : List StateNo → (ℕ → ℕ) → Type 0
Leads row next = (b : ℕ) → b < 256 → slice_index_or row b (state_no 0) ≡ state_no (next b)
