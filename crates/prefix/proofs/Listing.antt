-- From the words of a whole row to its shortest list. Assumes nothing.
use Rattle.std.proofs.Common.{◌≡◌, ℕ, ◌+◌, ◌<◌, ◌≤◌, Bool, Some, Option, eqb, List, [], map, length, slice_get, sym, ap, ◌∙◌, subst, arith, eqb-true}
use lib.ListN.{length-map}
use Rattle.std.specs.List.{AllByRecursion}
use Rattle.ternary.specs.declared.words.StateNo.{StateNo}
use Rattle.prefix.specs.declared.word.PrefixWord.{PrefixWord}
use Rattle.prefix.specs.declared.trees.Node.{Node}
use Rattle.prefix.specs.declared.trees.Prefix.{Prefix}
use Rattle.prefix.specs.declared.trees.Row.{Row}
use Rattle.prefix.specs.declared.trees.Subtrees.{Subtrees}
use Rattle.prefix.specs.Words.{Formed, Shortest, Fewest}
use Rattle.prefix.specs.States.{state_no}
use Rattle.prefix.specs.Tree.{least}
use Rattle.prefix.specs.Row.{subtree, shortest}
use Rattle.prefix.specs.Listed.{stated, tree_at, words_for}
use Rattle.prefix.specs.Subtrees.{Stands, Added}
use Rattle.prefix.proofs.Bytes.{eqb_same, shortest_stands, shortest-length, fewest}
use Rattle.prefix.proofs.Formed.{formed_shortest}
use Rattle.prefix.proofs.Prefixes.{small}
use Rattle.prefix.proofs.Standing.{stands_below, stands_says}
use Rattle.prefix.proofs.Redecided.{shortest_redecided, formed_redecided}

-- a number that is another's
pub bounded : (n m : ℕ) → n ≡ m → m ≤ 256 → n ≤ 256
bounded n m e h = omega arith

module _ (row : ℕ → ℕ) (deferrable : ℕ → Bool) where
  -- the words of the whole row
  abbrev pub list : List (PrefixWord StateNo)
  list = map stated (shortest 0 eqb row deferrable)

  pub list_length : length list ≡ least eqb (subtree row deferrable 0 0)
  list_length = length-map (shortest 0 eqb row deferrable) stated ∙ shortest-length eqb eqb-true eqb_same 0 row deferrable

  -- a shortest list has 256 words at most
  pub list≤ : length list ≤ 256
  list≤ = bounded (length list) (least eqb (subtree row deferrable 0 0)) list_length (small row deferrable 0 0).1

  pub list_formed : AllByRecursion Formed list
  list_formed = formed_redecided state_no (shortest 0 eqb row deferrable) (formed_shortest 0 eqb row deferrable)

  -- they are a shortest list for a row of states with these numbers
  module _ (states : ℕ → StateNo) (same_row : (byte : ℕ) → byte < 256 → row byte ≡ (states byte).0) where
    pub list_shortest : Shortest list states deferrable
    list_shortest =
        shortest_redecided state_no (λ s. s.0) row states deferrable (λ byte h. ap state_no (same_row byte h)) (λ byte h. sym (same_row byte h))
        (shortest 0 eqb row deferrable) (shortest_stands eqb eqb-true eqb_same 0 row deferrable)

    pub list_fewest : (count : ℕ) → count ≡ least eqb (subtree row deferrable 0 0) → Fewest count states deferrable
    list_fewest count e = fewest list states deferrable count list_shortest (e ∙ sym list_length)

-- the subtree of a prefix is added to no subtrees of a row
module _ (row : Row) (p : Prefix) (none w : Subtrees) (i : ℕ) (new : none.row ≡ row) (added : Added none w i (tree_at none.row p)) where
  of_row : w.row ≡ row
  of_row = added.row_is ∙ new

  pub root_stands : Stands w.nodes.items w.candidates.items i (tree_at w.row p)
  root_stands = subst (λ (r : Row). Stands w.nodes.items w.candidates.items i (tree_at r p)) (sym added.row_is) added.stands

  pub root_below : i < length w.nodes.items
  root_below = stands_below w.nodes.items w.candidates.items i (tree_at w.row p) root_stands

  pub root_least : (n : Node) → slice_get w.nodes.items i ≡ Some n → n.least ≡ least eqb (tree_at row p)
  root_least n at = (stands_says w.nodes.items w.candidates.items i (tree_at w.row p) n at root_stands).least_is ∙ ap (λ (r : Row). least eqb (tree_at r p)) of_row

  pub root_words : (above : Option StateNo) → words_for w.row p above ≡ words_for row p above
  root_words above = ap (λ (r : Row). words_for r p above) of_row

  -- there is room for the words of the prefix
  pub root_room : (words : List (PrefixWord StateNo)) → words ≡ [] → (above : Option StateNo) → length (words_for row p above) ≤ 256 → length words + length (words_for w.row p above) ≤ 256
  root_room words none above h = rw (none, root_words above) (omega arith)
