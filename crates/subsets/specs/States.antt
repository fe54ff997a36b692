-- Sets of positions as the states of the automaton. Assumes nothing.
use Rattle.std.specs.Prelude.{◌≡◌, ℕ, ◌<◌, ◌≤◌, false, List, length, map, take}
use Rattle.patterns.specs.Language.{Regex}
use Rattle.patterns.specs.Patterns.{Flags, flags, total}
use Rattle.positions.specs.declared.set.Set.{Set}
use Rattle.positions.specs.Sets.{in_set}
use Rattle.positions.specs.Tables.{set_at}
use Rattle.subsets.specs.declared.states.States.{States}

-- a set of positions of the patterns, as the automaton has it
abbrev pub flags_of : List Regex → Set → Flags
flags_of rs set = flags (total rs) (in_set set)

-- the set has only positions of the patterns
abbrev pub IsWithin : List Regex → Set → Type 0
IsWithin rs set = (p : ℕ) → total rs ≤ p → in_set set p ≡ false

-- the states are those sets
pub record AreStates (st : States) (rs : List Regex) (ss : List Flags) : Type 0 where
  pub room : length st.sets ≡ 512
  pub few : st.count ≤ 512
  pub within : (i : ℕ) → i < st.count → IsWithin rs (set_at st.sets i)
  pub are : ss ≡ map (flags_of rs) (take st.count st.sets)
