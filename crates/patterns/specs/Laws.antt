-- What is proved of patterns and their automaton. Assumes nothing.
use Rattle.std.specs.Prelude.{◌≡◌, ℕ, ◌<◌, ◌≤◌, Bool, true, List, [], length, get_or, Decides, ◌≢◌, slice_index_or}
use Rattle.patterns.specs.Language.{Word, Regex}
use Rattle.patterns.specs.Positions.{ends, step}
use Rattle.patterns.specs.Glushkov.{last, Reachable, holds_at}
use Rattle.patterns.specs.Patterns.{LastRead, Class, Flags, has, last_read, class_of}
use Rattle.patterns.specs.Subsets.{Bytes, states_of, Automaton, automaton_of, run}

-- the computed set has just the positions that a match begun anywhere in the input may have read
-- last
abbrev pub PositionsStand : Type 0
PositionsStand = (rs : List Regex) (input : Word) (p : ℕ)
    → Decides (has (last_read rs input) p) (LastRead rs input p)

-- a step reads just the first and the following positions whose class holds the byte
abbrev pub StepsStand : Type 0
StepsStand = (r : Regex) (k : ℕ) (begin : Bool) (set : ℕ → Bool) (b p : ℕ)
    → Decides (step k r begin set b p) (Reachable k r begin set p × (holds_at k r p b ≡ true))

-- a word ends where the set has a last position
abbrev pub EndsStand : Type 0
EndsStand = (r : Regex) (k : ℕ) (set : ℕ → Bool)
    → Decides (ends k r set) ((q : ℕ) × (last k r q ≡ true) × (set q ≡ true))

-- the class of the set is the lowest pattern with a word that ends where the input ends
abbrev pub ClassesStand : Type 0
ClassesStand = (rs : List Regex) (input : Word)
    → Class rs input (class_of rs (last_read rs input))

-- no two states have one set
abbrev pub Distinct : List Flags → Type 0
Distinct ss = (i j : ℕ) → i < j → j < length ss → slice_index_or ss i [] ≢ slice_index_or ss j []

-- the set of each state is reached by an input
abbrev pub Reached : List Regex → List Flags → Type 0
Reached rs ss = (i : ℕ) → i < length ss → (input : Word) × Bytes input
    × (slice_index_or ss i [] ≡ last_read rs input)

-- the sets found are distinct and each is reached by an input, so that over 512 found are over
-- 512 that can be reached
abbrev pub SetsStand : Type 0
SetsStand = (rs : List Regex) → Distinct (states_of rs) × Reached rs (states_of rs)

-- the automaton over an input is in a state that has the set of last-read positions and the class
-- of the input
pub record Follows (rs : List Regex) (a : Automaton) (input : Word) : Type 0 where
  pub within : run a 0 input < a.states
  pub set : get_or (states_of rs) (run a 0 input) [] ≡ last_read rs input
  pub class : Class rs input (a.class (run a 0 input))

abbrev pub AutomatonStands : Type 0
AutomatonStands = (rs : List Regex) → length (states_of rs) ≤ 512 → (input : Word) → Bytes input
    → Follows rs (automaton_of rs) input
