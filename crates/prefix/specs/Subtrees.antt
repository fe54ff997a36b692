-- What the nodes of a row's subtrees say. Assumes nothing.
use Rattle.std.specs.Prelude.{◌≡◌, ℕ, zero, suc, ◌+◌, ◌*◌, ◌^◌, min, Bool, cond, List, ◌++◌, length, Some, None, Option, nat_eq, nat_le, slice_get, slice_index}
use Rattle.prefix.specs.Tree.{Tree, leaf, node, base, least, bare, has, candidates, common, either, extra}
use Rattle.ternary.specs.declared.words.StateNo.{StateNo}
use Rattle.prefix.specs.States.{state_no}
use Rattle.prefix.specs.declared.trees.Node.{Node}
use Rattle.prefix.specs.declared.trees.Halves.{Halves}
use Rattle.prefix.specs.declared.trees.Subtrees.{Subtrees}
use Rattle.prefix.specs.Parts.{Inside, part_of}

-- what a node says of a tree, whose candidates are a part of the states
pub record Says (states : List ℕ) (n : Node) (t : Tree ℕ) : Type 0 where
  pub base_is : n.base ≡ base nat_eq t
  pub least_is : n.least ≡ least nat_eq t
  pub bare_is : n.bare ≡ bare nat_eq t
  pub inside : Inside (length states) n.candidates
  pub candidates_are : part_of states n.candidates ≡ candidates nat_eq t

-- whether a shortest list for a node's tree, below `above`, has no word that covers the tree
abbrev pub bare_in : List ℕ → Node → Option StateNo → Bool
bare_in states n None = n.bare
bare_in states n (Some above) = has nat_eq above.0 (part_of states n.candidates)

-- the decision of that word, where there is one
abbrev pub covering_in : List ℕ → Node → Option StateNo → Option StateNo
covering_in states n above = cond (bare_in states n above) None (Some (state_no (slice_index states n.candidates.first)))

-- the candidates of a whole from those of its halves
abbrev pub merged : List ℕ → Node → Node → List ℕ
merged states l r = either (common nat_eq (part_of states l.candidates) (part_of states r.candidates)) (part_of states l.candidates) (part_of states r.candidates)

-- the node of a whole from those of its halves, and the states with its candidates
pub record Joined (before after : List ℕ) (l r n : Node) : Type 0 where
  pub base_is : n.base ≡ l.base + r.base + extra (common nat_eq (part_of before l.candidates) (part_of before r.candidates))
  pub least_is : n.least ≡ min (l.least + r.least) (n.base + 1)
  pub bare_is : n.bare ≡ nat_le (l.least + r.least) (n.base + 1)
  pub first_is : n.candidates.first ≡ length before
  pub end_is : n.candidates.end ≡ length after
  pub stored : after ≡ before ++ merged before l r

-- the node of a number says what a tree costs, and its halves are nodes for the tree's
abbrev pub Stands : List Node → List ℕ → ℕ → Tree ℕ → Type 0
Stands nodes states i (leaf f d) = (n : Node) × (slice_get nodes i ≡ Some n) × Says states n (leaf f d) × (n.halves ≡ None)
Stands nodes states i (node l r) = (n : Node) × (h : Halves) × (slice_get nodes i ≡ Some n) × Says states n (node l r) × (n.halves ≡ Some h) × Stands nodes states h.low l × Stands nodes states h.high r

-- how many nodes a tree has
abbrev pub nodes_in : Tree ℕ → ℕ
nodes_in (leaf f d) = 1
nodes_in (node l r) = nodes_in l + nodes_in r + 1

-- how many candidates the nodes of a tree have together
abbrev pub states_in : Tree ℕ → ℕ
states_in (leaf f d) = 1
states_in (node l r) = states_in l + states_in r + length (candidates nat_eq (node l r))

-- the nodes of a tree are added to those of the same row, and the last of them stands for the tree
pub record Added (before after : Subtrees) (i : ℕ) (t : Tree ℕ) : Type 0 where
  pub row_is : after.row ≡ before.row
  pub more_nodes : (more : List Node) × (after.nodes.items ≡ before.nodes.items ++ more)
  pub more_states : (more : List ℕ) × (after.candidates.items ≡ before.candidates.items ++ more)
  pub nodes_counted : length after.nodes.items ≡ length before.nodes.items + nodes_in t
  pub states_counted : length after.candidates.items ≡ length before.candidates.items + states_in t
  pub stands : Stands after.nodes.items after.candidates.items i t

-- as many candidates as the nodes of a tree of the given height have at most
abbrev pub room : ℕ → ℕ
room zero = 1
room (suc h) = 2 * room h + 2 ^ suc h
