-- What the arrays of a joining hold. Assumes nothing.
use Rattle.std.specs.Prelude.{◌≡◌, ℕ, ◌<◌, Bool, true, false, cond, List, length, Some, None, Option, nat_lt, slice_index_or}
use Rattle.ternary.specs.declared.words.StateNo.{StateNo}
use Rattle.forest.specs.declared.joining.Join.{Join}
use Rattle.forest.specs.Counting.{any}
use Rattle.forest.specs.Deferment.{Trees, pair_is}

-- the number of the tree that a state stands in
abbrev pub label : List StateNo → ℕ → ℕ
label labels k = (slice_index_or labels k (record { 0 = 0 })).0

-- what is kept joins u and v
abbrev pub joins : Option Join → ℕ → ℕ → Bool
joins None u v = false
joins (Some j) u v = pair_is (j.low.0, j.high.0) u v

-- the join kept at i is of u and v
abbrev pub joins_at : List (Option Join) → ℕ → ℕ → ℕ → Bool
joins_at items i u v = joins (slice_index_or items i None) u v

-- a tree is numbered by one of its states, and a join is kept at the number of a tree that is in use no more
pub record Numbered (labels : List StateNo) (items : List (Option Join)) : Type 0 where
  pub size : length items ≡ length labels
  pub inside : (k : ℕ) → k < length labels → label labels k < length labels
  pub used : (k : ℕ) → k < length labels → label labels (label labels k) ≡ label labels k
  pub free : (k u v : ℕ) → k < length labels → label labels k ≡ k → joins_at items k u v ≡ false
  pub states : (i u v : ℕ) → joins_at items i u v ≡ true → (u < length labels) × (v < length labels)

-- the trees that the arrays hold: what is joined is kept at the trees that were ended, and a state with no place is a tree
abbrev pub grown : List StateNo → List (Option Join) → Trees
grown labels items = record {
  joined = λ u v. any (λ i. joins_at items i u v) (length items);
  tree = λ u. cond (nat_lt u (length labels)) (label labels u) u;
}
