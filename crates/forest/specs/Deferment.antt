-- The deferment forest of an automaton. Assumes nothing.
use Rattle.std.specs.Prelude.{◌≡◌, ℕ, zero, suc, ◌+◌, ◌<◌, Bool, true, false, cond, not, ◌&&◌, ◌||◌, List, [], ◌∷◌, ◌++◌, None, Option, ◌==◌, nat_eq, nat_le, nat_lt}
use Rattle.automaton.specs.Runs.{Dfa}
use Rattle.forest.specs.Counting.{count, any, least, found}
use Rattle.forest.specs.Forest.{Forest}
use Rattle.forest.specs.Codes.{numbered}

-- ---- which pairs of states are joined

-- how many bytes s and t share: both go to the same successor on them
unfoldable pub shared : Dfa → ℕ → ℕ → ℕ
shared a s t = count (λ b. nat_eq (a.next s b) (a.next t b)) 256

-- the pairs of s and a larger state below n that share c bytes, lower larger states first
abbrev pub pairs_of : Dfa → ℕ → ℕ → ℕ → List (ℕ × ℕ)
pairs_of a c s zero = []
pairs_of a c s (suc t) = pairs_of a c s t ++ cond (nat_lt s t && shared a s t == c) ((s, t) ∷ []) []

-- the pairs that share c bytes, with the smaller state below n, lower smaller states first
abbrev pub pairs_below : Dfa → ℕ → ℕ → List (ℕ × ℕ)
pairs_below a c zero = []
pairs_below a c (suc s) = pairs_below a c s ++ pairs_of a c s a.states

-- the pairs that share 32 bytes or more, but fewer than 32 + m: more shared bytes first
abbrev pub ranked : Dfa → ℕ → List (ℕ × ℕ)
ranked a zero = []
ranked a (suc m) = pairs_below a (32 + m) a.states ++ ranked a m

-- the trees so far: which states are joined, and a number that the states of one tree have in common
pub record Trees : Type 0 where
  pub joined : ℕ → ℕ → Bool
  pub tree : ℕ → ℕ

-- at first nothing is joined, and each state is a tree
abbrev pub alone : Trees
alone = record { joined = λ s t. false; tree = λ s. s }

-- u and v are the two states of a pair
abbrev pub pair_is : ℕ × ℕ → ℕ → ℕ → Bool
pair_is p u v = (u == p.0 && v == p.1) || (u == p.1 && v == p.0)

-- s and t are joined, and their trees are one
abbrev pub join : Trees → ℕ → ℕ → Trees
join f s t = record {
  joined = λ u v. f.joined u v || pair_is (s, t) u v;
  tree = λ u. cond (f.tree u == f.tree t) (f.tree s) (f.tree u);
}

-- each pair in its turn is joined, or passed over if it is already connected
abbrev pub kruskal : Trees → List (ℕ × ℕ) → Trees
kruskal f [] = f
kruskal f (p ∷ ps) = kruskal (cond (f.tree p.0 == f.tree p.1) f (join f p.0 p.1)) ps

-- the trees of an automaton: a pair shares at most 256 bytes
unfoldable pub trees_of : Dfa → Trees
trees_of a = kruskal alone (ranked a 225)

-- ---- roots, depths and parents

-- a walk of k joined pairs over the states below n, from s to t
pub data Walk (n : ℕ) (f : Trees) : ℕ → ℕ → ℕ → Type 0 where
  stay : {s : ℕ} → Walk n f 0 s s
  step : {k s t u : ℕ} → t < n → f.joined s t ≡ true → Walk n f k t u → Walk n f (suc k) s u

-- how many bytes lead from s to itself
unfoldable pub loops : Dfa → ℕ → ℕ
loops a s = count (λ b. nat_eq (a.next s b) s) 256

-- t is a better root than s: more bytes lead to itself, or as many and its number is lower
abbrev pub better : Dfa → ℕ → ℕ → Bool
better a t s = nat_lt (loops a s) (loops a t) || (loops a s == loops a t && nat_lt t s)

-- s is the root of its tree: no state of the tree is better
abbrev pub is_root : Dfa → Trees → ℕ → Bool
is_root a f s = not (any (λ t. (f.tree t == f.tree s) && better a t s) a.states)

-- a walk of r joined pairs leads from s to a root
abbrev pub away : Dfa → Trees → ℕ → ℕ → Bool
away a f zero s = is_root a f s
away a f (suc r) s = any (λ t. f.joined s t && away a f r t) a.states

-- the depth of s: how far it is from the root
abbrev pub depth_of : Dfa → Trees → ℕ → ℕ
depth_of a f s = least (λ r. away a f r s) a.states

-- the parent of s: its neighbour towards the root
abbrev pub parent_of : Dfa → Trees → ℕ → Option ℕ
parent_of a f s = found (λ t. f.joined s t && suc (depth_of a f t) == depth_of a f s) a.states

-- ---- the forest

-- every state defers towards the root of its tree
abbrev pub joined_forest : Dfa → Forest
joined_forest a = numbered a.states (parent_of a (trees_of a)) (depth_of a (trees_of a))

-- nothing is joined, and every state is a root
abbrev pub loose_forest : Dfa → Forest
loose_forest a = numbered a.states (λ s. None) (λ s. 0)

-- the forest of an automaton: a code has at most 16 bits
unfoldable pub forest_of : Dfa → Forest
forest_of a = cond (nat_le (joined_forest a).width 16) (joined_forest a) (loose_forest a)
