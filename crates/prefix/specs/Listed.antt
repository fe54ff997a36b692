-- The words of a subtree of a row. Assumes nothing.
use Rattle.std.specs.Prelude.{ℕ, ◌+◌, ◌*◌, Bool, cond, List, [], ◌∷◌, map, Some, None, Option, nat_eq}
use Rattle.ternary.specs.declared.words.StateNo.{StateNo}
use Rattle.prefix.specs.declared.word.PrefixWord.{PrefixWord}
use Rattle.prefix.specs.declared.trees.Prefix.{Prefix}
use Rattle.prefix.specs.declared.trees.Row.{Row}
use Rattle.prefix.specs.Tree.{Tree, Mark, bare, has, candidates, best, emit_under, emit}
use Rattle.prefix.specs.Row.{subtree, placed, shortest}
use Rattle.prefix.specs.States.{state_no, successors, flags}

-- the numbers of the states that a row leads to
abbrev pub numbered : List StateNo → ℕ → ℕ
numbered row byte = (successors row byte).0

-- a word that decides the state of a number
abbrev pub stated : PrefixWord ℕ → PrefixWord StateNo
stated w = record { bits = w.bits; value = w.value; next = state_no w.next }

-- a word for the bytes of a prefix
abbrev pub word_for : Prefix → StateNo → PrefixWord StateNo
word_for p next = record { bits = p.bits; value = p.value; next = next }

-- the prefix of all bytes
abbrev pub all_bytes : Prefix
all_bytes = record { bits = 0; value = 0 }

-- the prefix that is one bit longer, of the lower half of its bytes
abbrev pub low_half : Prefix → Prefix
low_half p = record { bits = p.bits + 1; value = 2 * p.value }

-- the prefix that is one bit longer, of the higher half of its bytes
abbrev pub high_half : Prefix → Prefix
high_half p = record { bits = p.bits + 1; value = 2 * p.value + 1 }

-- the tree of the bytes of a prefix
abbrev pub tree_at : Row → Prefix → Tree ℕ
tree_at row p = subtree (numbered row.successors.now) (flags row.deferrable.now) p.bits p.value

-- the marks of a shortest list for a tree, below a word that decides `above` where there is one
abbrev pub marks : Option StateNo → Tree ℕ → List (Mark ℕ)
marks None t = emit nat_eq 0 t
marks (Some above) t = emit_under nat_eq 0 above.0 t

-- whether a shortest list below a word that decides `above`, if there is one, has no word that covers the tree
abbrev pub bare_under : Option StateNo → Tree ℕ → Bool
bare_under None t = bare nat_eq t
bare_under (Some above) t = has nat_eq above.0 (candidates nat_eq t)

-- the decision of a word that covers the tree, where such a list has one
abbrev pub cover : Option StateNo → Tree ℕ → Option StateNo
cover above t = cond (bare_under above t) None (Some (state_no (best nat_eq 0 t)))

-- the words of such a list for the bytes of a prefix
abbrev pub words_for : Row → Prefix → Option StateNo → List (PrefixWord StateNo)
words_for row p above = map stated (placed 0 p.bits p.value (marks above (tree_at row p)))

-- the word that covers the bytes of a prefix, where there is a decision for it
abbrev pub closing : Prefix → Option StateNo → List (PrefixWord StateNo)
closing p None = []
closing p (Some next) = word_for p next ∷ []

-- the shortest list that is chosen for a row, given by the numbers of its states
unfoldable pub chosen : (ℕ → ℕ) → (ℕ → Bool) → List (PrefixWord StateNo)
chosen row deferrable = map stated (shortest 0 nat_eq row deferrable)
