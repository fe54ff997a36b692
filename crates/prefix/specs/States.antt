-- The rows of an automaton, whose decisions are states. Assumes nothing.
use Rattle.std.specs.Prelude.{ℕ, Bool, false, List, ◌==◌, slice_index_or}
use Rattle.ternary.specs.declared.words.StateNo.{StateNo}

-- the state of that number
abbrev pub state_no : ℕ → StateNo
state_no n = record { 0 = n }

-- the successor of each byte
abbrev pub successors : List StateNo → ℕ → StateNo
successors row byte = slice_index_or row byte (state_no 0)

-- whether two rows share a byte: both have the same successor for it
abbrev pub shares : List StateNo → List StateNo → ℕ → Bool
shares row other byte = (successors row byte).0 == (successors other byte).0

-- whether a byte is marked
abbrev pub flags : List Bool → ℕ → Bool
flags marked byte = slice_index_or marked byte false
