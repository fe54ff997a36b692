-- Entries while they are gathered, and the list that is chosen for each state. No public call cites this file. Assumes nothing.
use Rattle.std.specs.Prelude.{◌≡◌, ℕ, ◌+◌, ◌<◌, List, ◌++◌, map, length, Ok, Err, Result}
use Rattle.ternary.specs.declared.entry.Entry.{Entry}
use Rattle.ternary.specs.declared.refusal.Refusal.{Refusal}
use Rattle.ternary.specs.declared.refusal.Refusal.TheVariants.{TooManyEntries}
use Rattle.automaton.specs.Runs.{Dfa}
use Rattle.prefix.specs.Listed.{chosen}
use Rattle.forest.specs.Deferment.{forest_of}
use Rattle.forest.specs.Table.{level}
use Rattle.builder.specs.Lists.{Lists, byte_word, deferrable}

-- gathering more entries adds them at the end, or refuses them since they would pass 4,096
abbrev pub Gathers : List Entry → List Entry → List Entry → Result (Unit {0}) Refusal → Type 0
Gathers before after more (Ok u) = after ≡ before ++ more
Gathers before after more (Err why) = (why ≡ TooManyEntries) × (4096 < length before + length more)

-- the list that is chosen for each state, by its row and its deferrable bytes
abbrev pub lists_of : Dfa → Lists
lists_of a s = chosen (a.next s) (deferrable a s)

-- the entries of the states below n at the depth d, over some lists
abbrev pub level_over : Dfa → Lists → ℕ → ℕ → List Entry
level_over a lists = level a (forest_of a) (λ s. map byte_word (lists s))
