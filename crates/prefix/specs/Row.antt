-- A row of an automaton as a tree over the bits of a byte, and the emitted words as prefix words. Assumes nothing.
use Rattle.std.specs.Prelude.{ℕ, zero, suc, ◌+◌, ◌-◌, ◌*◌, Bool, List, map}
use Rattle.prefix.specs.Tree.{Tree, leaf, node, Mark, here, low, high, nowhere, emit}
use Rattle.prefix.specs.declared.word.PrefixWord.{PrefixWord}

-- the tree of the given height over the bytes whose first bits are v; its leaves are the row's bytes
abbrev pub build : {D : Type 0} → (ℕ → D) → (ℕ → Bool) → ℕ → ℕ → Tree D
build row deferrable zero v = leaf (row v) (deferrable v)
build row deferrable (suc h) v = node (build row deferrable h (2 * v)) (build row deferrable h (2 * v + 1))

-- the tree of the bytes whose first bits are v
abbrev pub subtree : {D : Type 0} → (ℕ → D) → (ℕ → Bool) → ℕ → ℕ → Tree D
subtree row deferrable bits v = build row deferrable (8 - bits) v

module _ {D : Type 0} (unknown : D) where
  -- a word that no byte matches
  abbrev pub dead : PrefixWord D
  dead = record { bits = 0; value = 1; next = unknown }

  -- the word that a mark stands for, in the tree of the given height over the bytes whose first bits are v
  abbrev pub word : ℕ → ℕ → Mark D → PrefixWord D
  word h v (here e) = record { bits = 8 - h; value = v; next = e }
  word zero v (low m) = dead
  word (suc h) v (low m) = word h (2 * v) m
  word zero v (high m) = dead
  word (suc h) v (high m) = word h (2 * v + 1) m
  word h v nowhere = dead

  -- the words that marks stand for, in the tree of the bytes whose first bits are v
  abbrev pub placed : ℕ → ℕ → List (Mark D) → List (PrefixWord D)
  placed bits v ms = map (word (8 - bits) v) ms

  -- a shortest list of words for a row
  abbrev pub shortest : (D → D → Bool) → (ℕ → D) → (ℕ → Bool) → List (PrefixWord D)
  shortest same row deferrable = placed 0 0 (emit same unknown (subtree row deferrable 0 0))
