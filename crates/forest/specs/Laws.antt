-- What holds of forests, shadow codes and tables: the laws that planning names. Assumes nothing.
use Rattle.std.specs.Prelude.{◌≡◌, ℕ, suc, ◌^◌, ◌<◌, ◌≤◌, true, false, List, Some, None, bit_and}
use Rattle.ternary.specs.Match.{first}
use Rattle.forest.specs.Words.{ByteWord}
use Rattle.automaton.specs.Runs.{Dfa}
use Rattle.forest.specs.Forest.{Forest, Above, code, mask}
use Rattle.forest.specs.Deferment.{Trees, shared, trees_of, Walk, is_root, depth_of, parent_of, forest_of}
use Rattle.forest.specs.Table.{ByteRule, decision, table}

-- a state's code matches its own shadow and those of the states it defers to, and no other
pub record Shadows (f : Forest) : Type 0 where
  pub met : (s t : ℕ) → s < f.states → t < f.states → Above f s t → bit_and (code f t) (mask f s) ≡ code f s
  pub only : (s t : ℕ) → s < f.states → t < f.states → bit_and (code f t) (mask f s) ≡ code f s → Above f s t
  pub differ : (s t : ℕ) → s < f.states → t < f.states → code f s ≡ code f t → s ≡ t
  pub below : (s : ℕ) → s < f.states → code f s < 2 ^ f.width

-- the first entry that matches a state's code and a byte decides for the state's successor
abbrev pub Right : Dfa → Forest → (ℕ → List ByteWord) → Type 0
Right a f words =
    (s byte : ℕ) → s < f.states → byte < 256 →
    first (table a f words) (code f s) byte ≡ Some (decision a f (a.next s byte))

-- what is joined, and what a tree is
pub record Joining (a : Dfa) (f : Trees) : Type 0 where
  -- a joined pair shares 32 bytes or more, and stands in one tree
  pub close : (s t : ℕ) → f.joined s t ≡ true → (s < a.states) × (t < a.states) × (32 ≤ shared a s t) × (f.tree s ≡ f.tree t)
  -- the states of a tree are connected by joined pairs
  pub connected : (s t : ℕ) → s < a.states → t < a.states → f.tree s ≡ f.tree t → (k : ℕ) × (k < a.states) × Walk a.states f k s t
  -- two states that share 32 bytes or more stand in one tree
  pub complete : (s t : ℕ) → s < t → t < a.states → 32 ≤ shared a s t → f.tree s ≡ f.tree t

-- the trees of an automaton, their roots and the parents keep the rule of deferment
pub record Deferment (a : Dfa) (f : Trees) : Type 0 where
  -- a tree has one root
  pub one_root : (s t : ℕ) → s < a.states → t < a.states → f.tree s ≡ f.tree t → is_root a f s ≡ true → is_root a f t ≡ true → s ≡ t
  -- the roots, and only they, have no parent
  pub root : (s : ℕ) → s < a.states → is_root a f s ≡ true → parent_of a f s ≡ None
  pub other : (s : ℕ) → s < a.states → is_root a f s ≡ false → (p : ℕ) × (parent_of a f s ≡ Some p)
  -- a parent is a neighbour in the same tree, one nearer to the root, and shares 32 bytes or more
  pub neighbour : (s p : ℕ) → parent_of a f s ≡ Some p → (p < a.states) × (f.joined s p ≡ true) × (f.tree s ≡ f.tree p)
  pub nearer : (s p : ℕ) → parent_of a f s ≡ Some p → depth_of a f s ≡ suc (depth_of a f p)
  -- it is the only neighbour nearer to the root
  pub sole : (s t : ℕ) → f.joined s t ≡ true → depth_of a f s ≡ suc (depth_of a f t) → parent_of a f s ≡ Some t
  pub shares : (s p : ℕ) → parent_of a f s ≡ Some p → 32 ≤ shared a s p

-- what holds of the forest of an automaton: how its states are joined and defer, how its codes match its shadows, and that every table over it that keeps the byte rule gives each state its right successors
pub record PlanLaws (a : Dfa) : Type 0 where
  pub joining : Joining a (trees_of a)
  pub deferment : Deferment a (trees_of a)
  pub shadows : Shadows (forest_of a)
  pub right : (words : ℕ → List ByteWord) → ByteRule a (forest_of a) words → Right a (forest_of a) words
