-- When words meet a tree of decisions, and what that costs under a word above. Assumes nothing.
use Rattle.std.proofs.Common.{ℕ, ◌+◌, Bool, ◌&&◌, List, [], ◌∷◌}
use Rattle.prefix.specs.Tree.{Tree, leaf, node, Mark, here, low, high, nowhere, miss, has, candidates, base}

-- the words as the low half sees them
abbrev pub lows : {D : Type 0} → List (Mark D) → List (Mark D)
lows [] = []
lows (here e ∷ ws) = here e ∷ lows ws
lows (low w ∷ ws) = w ∷ lows ws
lows (high w ∷ ws) = lows ws
lows (nowhere ∷ ws) = lows ws

-- the words as the high half sees them
abbrev pub highs : {D : Type 0} → List (Mark D) → List (Mark D)
highs [] = []
highs (here e ∷ ws) = here e ∷ highs ws
highs (low w ∷ ws) = highs ws
highs (high w ∷ ws) = w ∷ highs ws
highs (nowhere ∷ ws) = highs ws

-- a leaf may be left unmatched where it is deferrable
abbrev pub deferred : {D : Type 0} → D → Bool → Bool
deferred f d = d

module _ {D : Type 0} (same : D → D → Bool) where
  -- the least cost of a tree under a word that decides e
  abbrev pub under : D → Tree D → ℕ
  under e t = base same t + miss (has same e (candidates same t))

  -- a leaf is met by the first word that covers it, or is left to the rule for unmatched leaves
  abbrev pub fits : (D → Bool → Bool) → D → Bool → List (Mark D) → Bool
  fits U f d [] = U f d
  fits U f d (here e ∷ ws) = same e f
  fits U f d (low w ∷ ws) = fits U f d ws
  fits U f d (high w ∷ ws) = fits U f d ws
  fits U f d (nowhere ∷ ws) = fits U f d ws

  -- every leaf is met
  abbrev pub meets : (D → Bool → Bool) → Tree D → List (Mark D) → Bool
  meets U (leaf f d) ws = fits U f d ws
  meets U (node l r) ws = meets U l (lows ws) && meets U r (highs ws)

  -- a leaf may be left unmatched where the word above, which decides e, is right for it
  abbrev pub falls : D → D → Bool → Bool
  falls e f d = same e f
