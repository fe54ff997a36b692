-- A prefix list for each state of an automaton, and the table and the image over these lists. Assumes nothing.
use Rattle.std.specs.Prelude.{ℕ, ◌<◌, Bool, false, List, map, Some, None, Option, ◌==◌}
use Rattle.std.specs.List.{range_with_len, AllByRecursion}
use Rattle.ternary.specs.declared.words.StateNo.{StateNo}
use Rattle.ternary.specs.declared.words.StateCode.{StateCode}
use Rattle.ternary.specs.declared.entry.Entry.{Entry}
use Rattle.automaton.specs.Runs.{Dfa}
use Rattle.image.specs.Format.{Parts, parts_from}
use Rattle.prefix.specs.declared.word.PrefixWord.{PrefixWord}
use Rattle.prefix.specs.Masks.{byte_mask, byte_value}
use Rattle.prefix.specs.States.{state_no}
use Rattle.prefix.specs.Words.{Formed, ByteRule, Shortest}
use Rattle.forest.specs.Words.{ByteWord}
use Rattle.forest.specs.Forest.{code}
use Rattle.forest.specs.Deferment.{forest_of}
use Rattle.forest.specs.Table.{entry, table}

-- the successors of the state s, byte by byte
abbrev pub row : Dfa → ℕ → ℕ → StateNo
row a s byte = state_no (a.next s byte)

-- whether s shares the byte with the state that it defers to; a root defers to none
abbrev pub shared_with : Dfa → Option ℕ → ℕ → ℕ → Bool
shared_with a None s byte = false
shared_with a (Some p) s byte = a.next s byte == a.next p byte

-- the deferrable bytes of s
abbrev pub deferrable : Dfa → ℕ → ℕ → Bool
deferrable a s = shared_with a ((forest_of a).parent s) s

-- a prefix list for each state
abbrev pub Lists : Type 0
Lists = ℕ → List (PrefixWord StateNo)

-- the list of each state meets the byte rule
abbrev pub MeetingLists : Dfa → Lists → Type 0
MeetingLists a lists = (s : ℕ) → s < a.states → ByteRule (row a s) (deferrable a s) (lists s)

-- the list of each state is a prefix list that meets the byte rule and has as few words as any list that does
abbrev pub ShortestLists : Dfa → Lists → Type 0
ShortestLists a lists = (s : ℕ) → s < a.states → AllByRecursion Formed (lists s) × Shortest (lists s) (row a s) (deferrable a s)

-- a prefix word as a value and a mask over the byte
abbrev pub byte_word : PrefixWord StateNo → ByteWord
byte_word w = record { value = byte_value w; mask = byte_mask w; next = w.next.0 }

-- the entry of a word of s: the shadow of s with the word, and the code and the class of the word's successor
abbrev pub entry_for : Dfa → ℕ → PrefixWord StateNo → Entry
entry_for a s w = entry a (forest_of a) s (byte_word w)

-- the entries of all states: deeper states first, then lower numbers, each state's in the sequence of its list
abbrev pub table_over : Dfa → Lists → List Entry
table_over a lists = table a (forest_of a) (λ s. map byte_word (lists s))

-- the code of a state
abbrev pub code_of : Dfa → ℕ → StateCode
code_of a s = record { 0 = code (forest_of a) s }

-- what the image over these lists holds: the width, the start state, the codes in state order and the entries
abbrev pub parts_over : Dfa → Lists → Parts
parts_over a lists = parts_from (forest_of a).width (state_no a.start) (map (code_of a) (range_with_len 0 a.states)) (table_over a lists)
