-- The automaton of the patterns: its states are the sets of last-read positions that can be
-- reached. Assumes nothing.
use Rattle.std.specs.Prelude.{ℕ, zero, suc, ◌<◌, Bool, true, false, cond, not, ◌&&◌, List, [], ◌∷◌, ◌++◌, length, nat_lt, slice_index_or}
use Rattle.patterns.specs.Language.{Word, Regex}
use Rattle.patterns.specs.Patterns.{Flags, none, next, class_of}

-- every byte of the input is a byte
abbrev pub Bytes : Word → Type 0
Bytes [] = Unit {0}
Bytes (b ∷ w) = (b < 256) × Bytes w

-- two flags, and two sets, are the same
abbrev pub same_flag : Bool → Bool → Bool
same_flag true y = y
same_flag false y = not y

abbrev pub same : Flags → Flags → Bool
same [] [] = true
same [] (y ∷ ys) = false
same (x ∷ xs) [] = false
same (x ∷ xs) (y ∷ ys) = same_flag x y && same xs ys

-- the number of a set among the states, and how many they are if it is not there
abbrev pub number : Flags → List Flags → ℕ
number set [] = 0
number set (s ∷ ss) = cond (same s set) 0 (suc (number set ss))

-- a set that is not among the states becomes the last of them
abbrev pub enter : List Flags → Flags → List Flags
enter ss set = cond (nat_lt (number set ss) (length ss)) ss (ss ++ (set ∷ []))

-- the sets of a row, one for each byte below n, lower bytes first
unfoldable pub enter_row : (ℕ → Flags) → ℕ → List Flags → List Flags
enter_row row zero ss = ss
enter_row row (suc n) ss = enter (enter_row row n ss) (row n)

-- the turn of state m: the sets that its bytes lead to
unfoldable pub turn : List Regex → List Flags → ℕ → List Flags
turn rs ss m = cond (nat_lt m (length ss)) (enter_row (next rs (slice_index_or ss m [])) 256 ss) ss

-- the states once the first m have had their turns; the empty set is the first
abbrev pub found : List Regex → ℕ → List Flags
found rs zero = none rs ∷ []
found rs (suc m) = turn rs (found rs m) m

-- the states of the automaton: there may be 512
unfoldable pub states_of : List Regex → List Flags
states_of rs = found rs 512

-- an automaton: how many states it has (the first is the start), their successors and their
-- classes
pub record Automaton : Type 0 where
  pub states : ℕ
  pub next : ℕ → ℕ → ℕ
  pub class : ℕ → ℕ

-- the automaton over a list of sets
abbrev pub over : List Regex → List Flags → Automaton
over rs ss = record {
  states = length ss;
  next = λ s b. number (next rs (slice_index_or ss s []) b) ss;
  class = λ s. class_of rs (slice_index_or ss s []);
}

-- the automaton of the patterns
abbrev pub automaton_of : List Regex → Automaton
automaton_of rs = over rs (states_of rs)

-- the state that an input leads to from s
abbrev pub run : Automaton → ℕ → Word → ℕ
run a s [] = s
run a s (b ∷ w) = run a (a.next s b) w
