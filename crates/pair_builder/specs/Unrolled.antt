-- A two-byte table over shortest lists, with the closing entries of its roots unrolled. Assumes nothing.
use Rattle.std.specs.Prelude.{◌≡◌, ℕ, zero, suc, ◌<◌, Bool, true, false, cond, List, [], ◌∷◌, ◌++◌, map, None, ◌==◌}
use Rattle.std.specs.List.{AllByRecursion}
use Rattle.ternary.specs.declared.entry.Entry.{Entry}
use Rattle.ternary.specs.declared.words.StateNo.{StateNo}
use Rattle.ternary.specs.Entries.{and_again}
use Rattle.automaton.specs.Runs.{Dfa}
use Rattle.prefix.specs.declared.word.PrefixWord.{PrefixWord}
use Rattle.prefix.specs.States.{state_no}
use Rattle.prefix.specs.Words.{Formed, Shortest}
use Rattle.forest.specs.Deferment.{forest_of}
use Rattle.forest.specs.Table.{height}
use Rattle.builder.specs.Lists.{Lists, row, deferrable, ShortestLists, entry_for}
use Rattle.pairs.specs.declared.stride.Stride.TheVariants.{One, Two}
use Rattle.pairs.specs.declared.pair.PairEntry.{PairEntry}

-- an entry that takes one byte, whatever the second
abbrev pub single : Entry → PairEntry
single e = record { entry = e; second_value = 0; second_mask = 0; stride = One; second_clear = and_again 0 0 }

-- the code and the decision of two entries, one byte after another: the code and the byte of the first, then the byte and the decision of the second
abbrev pub decided_by : Entry → Entry → Entry
decided_by d e = record {
  code_value = d.code_value;
  code_mask = d.code_mask;
  byte_value = d.byte_value;
  byte_mask = d.byte_mask;
  next = e.next;
  class = e.class;
  code_clear = d.code_clear;
  byte_clear = d.byte_clear;
}

-- an entry that takes two bytes: that of the first entry, and then that of the second
abbrev pub double : Entry → Entry → PairEntry
double d e = record { entry = decided_by d e; second_value = e.byte_value; second_mask = e.byte_mask; stride = Two; second_clear = e.byte_clear }

-- a closing entry is unrolled: it stands before each entry of the list, itself among them
abbrev pub unrolled : Entry → List Entry → List PairEntry
unrolled d es = map (double d) es

-- a list for each state, and the states whose closing entry is unrolled
pub record Choice : Type 0 where
  pub lists : Lists
  pub opened : ℕ → Bool

-- the word of a closing default entry that leads to the state s
abbrev pub closing_word : ℕ → PrefixWord StateNo
closing_word s = record { bits = 0; value = 0; next = state_no s }

-- a list closes with a default word that leads to the state s, after these words
pub record Closes (s : ℕ) (words : List (PrefixWord StateNo)) : Type 0 where
  pub front : List (PrefixWord StateNo)
  pub whole : words ≡ front ++ closing_word s ∷ []

-- a root of class 0
abbrev pub IsQuietRoot : Dfa → ℕ → Type 0
IsQuietRoot a s = ((forest_of a).parent s ≡ None) × (a.class s ≡ 0)

-- the lists are shortest; a root of class 0 has one that closes with a default word that leads to it, if any shortest list does, and that closing entry is unrolled; no other is
pub record Chosen (a : Dfa) (p : Choice) : Type 0 where
  pub shortest : ShortestLists a p.lists
  pub unrolls : (s : ℕ) → s < a.states → p.opened s ≡ true → IsQuietRoot a s × Closes s (p.lists s)
  pub keeps : (s : ℕ) → s < a.states → p.opened s ≡ false → IsQuietRoot a s → (words : List (PrefixWord StateNo)) → Shortest words (row a s) (deferrable a s) → Closes s words → ⊥

-- the entries of a state before unrolling
abbrev pub own : Dfa → Choice → ℕ → List Entry
own a p s = map (entry_for a s) (p.lists s)

-- all but the last of a list
abbrev pub all_but_last : {X : Type 0} → List X → List X
all_but_last [] = []
all_but_last (x ∷ []) = []
all_but_last (x ∷ y ∷ xs) = x ∷ all_but_last (y ∷ xs)

-- the two-byte entries of a state by its list: each takes one byte, but the closing one of an unrolled root is unrolled
abbrev pub block_of : Dfa → ℕ → Bool → List (PrefixWord StateNo) → List PairEntry
block_of a s opened words =
    cond opened
    (map single (all_but_last (map (entry_for a s) words)) ++ unrolled (entry_for a s (closing_word s)) (map (entry_for a s) words))
    (map single (map (entry_for a s) words))

-- so by a choice
abbrev pub pair_block : Dfa → Choice → ℕ → List PairEntry
pair_block a p s = block_of a s (p.opened s) (p.lists s)

-- the blocks of the states below n at depth d, lower numbers first
abbrev pub pair_level : Dfa → Choice → ℕ → ℕ → List PairEntry
pair_level a p d zero = []
pair_level a p d (suc n) = pair_level a p d n ++ cond ((forest_of a).depth n == d) (pair_block a p n) []

-- the levels below d, deeper first
abbrev pub pair_levels : Dfa → Choice → ℕ → List PairEntry
pair_levels a p zero = []
pair_levels a p (suc d) = pair_level a p d (forest_of a).states ++ pair_levels a p d

-- the table: the blocks of all states, deeper states first, then lower numbers
abbrev pub pair_table : Dfa → Choice → List PairEntry
pair_table a p = pair_levels a p (height (forest_of a) (forest_of a).states)
