-- Depths and parents, found in rounds from the roots. Assumes nothing.
use Rattle.std.specs.Prelude.{◌≡◌, ℕ, ◌+◌, ◌<◌, ◌≤◌, Bool, true, false, cond, ◌&&◌, ◌⊎◌, List, length, Some, None, Option, ◌==◌, slice_index_or, slice_set}
use Rattle.std.specs.List.{list_any, range_with_len}
use Rattle.automaton.specs.Runs.{Dfa}
use Rattle.ternary.specs.declared.words.StateNo.{StateNo}
use Rattle.forest.specs.declared.placing.Place.{Place}
use Rattle.forest.specs.Deferment.{Trees, trees_of, better, depth_of, parent_of}
use Rattle.forest.specs.Forest.{Forest}
use Rattle.forest.specs.Codes.{numbered}
use Rattle.forest.specs.Plan.{state_named}
use Rattle.forest.specs.Labels.{label}

-- the place of a root
abbrev pub root_place : Place
root_place = record { depth = 0; parent = None }

-- the place of s in the trees of an automaton: its depth and its parent
abbrev pub place_of : Dfa → Trees → ℕ → Place
place_of a f s = record { depth = depth_of a f s; parent = state_named (parent_of a f s) }

-- the number of a state, or none
abbrev pub named : Option StateNo → Option ℕ
named None = None
named (Some s) = Some s.0

-- the state that s defers to, by a list of places
abbrev pub parent_at : List Place → ℕ → Option ℕ
parent_at places s = named (slice_index_or places s root_place).parent

-- the depth of s, by a list of places
abbrev pub depth_at : List Place → ℕ → ℕ
depth_at places s = (slice_index_or places s root_place).depth

-- the forest that places describe
abbrev pub forest_at : List Place → Forest
forest_at places = numbered (length places) (parent_at places) (depth_at places)

-- there is a place for each state of an automaton, and it is the state's own
abbrev pub AllInPlace : Dfa → List Place → Type 0
AllInPlace a places = (length places ≡ a.states) × ((s : ℕ) → s < a.states → slice_index_or places s root_place ≡ place_of a (trees_of a) s)

-- a state stands at depth r
abbrev pub stands : Option Place → ℕ → Bool
stands None r = false
stands (Some p) r = p.depth == r

-- a state has no place yet
abbrev pub is_free : Option Place → Bool
is_free None = true
is_free (Some p) = false

-- s stands at depth r, and t has no place yet
abbrev pub visits : List (Option Place) → ℕ → ℕ → ℕ → Bool
visits places r s t = stands (slice_index_or places s None) r && is_free (slice_index_or places t None)

-- the places once t is placed below s, if s stands at depth r and t has no place yet
abbrev pub visited : List (Option Place) → ℕ → StateNo → StateNo → List (Option Place)
visited places r s t = cond (visits places r s.0 t.0) (slice_set places t.0 (Some (record { depth = r + 1; parent = Some s }))) places

-- s has its place
abbrev pub InPlace : Dfa → Trees → List (Option Place) → ℕ → Type 0
InPlace a f places s = slice_index_or places s None ≡ Some (place_of a f s)

-- the states at depth r or less are placed, and who is placed has its place
pub record Placed (a : Dfa) (f : Trees) (r : ℕ) (places : List (Option Place)) : Type 0 where
  pub size : a.states ≤ length places
  pub right : (s : ℕ) → s < a.states → (slice_index_or places s None ≡ None) ⊎ InPlace a f places s
  pub full : (s : ℕ) → s < a.states → depth_of a f s ≤ r → InPlace a f places s

-- t stands in the tree of s and is a better root, by the numbers of the trees
abbrev pub better_in : List StateNo → Dfa → ℕ → ℕ → Bool
better_in labels a t s = label labels t == label labels s && better a t s

-- a state of the tree of s is a better root
abbrev pub beaten_in : List StateNo → Dfa → ℕ → Bool
beaten_in labels a s = list_any (λ t. better_in labels a t s) (range_with_len 0 a.states)
