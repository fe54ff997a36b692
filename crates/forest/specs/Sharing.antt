-- What lent numbers hold of the bytes that states share. Assumes nothing.
use Rattle.std.specs.Prelude.{◌≡◌, ℕ, ◌+◌, ◌*◌, ◌<◌, Bool, true, false, List, length, slice_index, slice_index_or}
use Rattle.automaton.specs.Runs.{Dfa}
use Rattle.forest.specs.Deferment.{shared, loops}

-- an array holds, in the rows below m, how many bytes the row's state shares with each larger one
abbrev pub RowsCounted : Dfa → List ℕ → ℕ → Type 0
RowsCounted a counts m = (s t : ℕ) → s < m → s < t → t < a.states → slice_index counts (s * a.states + t) ≡ shared a s t

-- a list holds for each state how many bytes lead from it to itself
abbrev pub LoopsCounted : Dfa → List ℕ → Type 0
LoopsCounted a counts = (length counts ≡ a.states) × ((s : ℕ) → s < a.states → slice_index counts s ≡ loops a s)

-- flags are set for the counts of the rows below m
abbrev pub RowsMet : Dfa → List Bool → ℕ → Type 0
RowsMet a flags m = (s t : ℕ) → s < m → s < t → t < a.states → slice_index_or flags (shared a s t) false ≡ true

-- no two states share just c bytes
abbrev pub NonePair : Dfa → ℕ → Type 0
NonePair a c = (s t : ℕ) → s < t → t < a.states → shared a s t ≡ c → ⊥
