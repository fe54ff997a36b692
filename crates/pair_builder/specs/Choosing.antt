-- The lists that the builder chooses, the roots whose closing entry it unrolls, and entries while they are gathered. No public call cites this file. Assumes nothing.
use Rattle.std.specs.Prelude.{◌≡◌, ℕ, ◌+◌, ◌<◌, Bool, true, false, cond, ◌&&◌, List, [], ◌∷◌, ◌++◌, length, Some, None, Option, Ok, Err, Result, ◌==◌}
use Rattle.ternary.specs.declared.refusal.Refusal.{Refusal}
use Rattle.ternary.specs.declared.refusal.Refusal.TheVariants.{TooManyEntries}
use Rattle.ternary.specs.declared.words.StateNo.{StateNo}
use Rattle.automaton.specs.Runs.{Dfa}
use Rattle.prefix.specs.declared.word.PrefixWord.{PrefixWord}
use Rattle.prefix.specs.Listed.{chosen}
use Rattle.forest.specs.Deferment.{forest_of}
use Rattle.builder.specs.Gathering.{lists_of}
use Rattle.pair_builder.specs.Unrolled.{Choice, closing_word}

-- gathering more entries adds them at the end, or refuses them since they would pass 4,096
abbrev pub Gathers : {X : Type 0} → List X → List X → List X → Result (Unit {0}) Refusal → Type 0
Gathers before after more (Ok u) = after ≡ before ++ more
Gathers before after more (Err why) = (why ≡ TooManyEntries) × (4096 < length before + length more)

-- whether a byte leads to the state itself
abbrev pub to_itself : Dfa → ℕ → ℕ → Bool
to_itself a s byte = a.next s byte == s

-- the words before a closing word that leads to the state itself: a shortest list that may leave out the bytes that do
abbrev pub front_of : Dfa → ℕ → List (PrefixWord StateNo)
front_of a s = chosen (a.next s) (to_itself a s)

abbrev pub no_parent : Option ℕ → Bool
no_parent None = true
no_parent (Some p) = false

-- a root of class 0, for which these words and the closing word are no more than a shortest list
abbrev pub opens : Dfa → ℕ → Bool
opens a s = no_parent ((forest_of a).parent s) && (a.class s == 0 && (length (front_of a s) + 1 == length (lists_of a s)))

-- the lists, and what is unrolled
abbrev pub choice_of : Dfa → Choice
choice_of a = record { lists = λ s. cond (opens a s) (front_of a s ++ closing_word s ∷ []) (lists_of a s); opened = opens a }
