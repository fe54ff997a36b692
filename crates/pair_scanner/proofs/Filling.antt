-- A card that is filled entry by entry.
use Rattle.std.proofs.Common.{◌≡◌, ℕ, ◌+◌, List, ◌++◌, length}
use Rattle.ternary.specs.declared.entry.Entry.{Entry}
use Rattle.pairs.specs.declared.pair.PairEntry.{PairEntry}

-- a card's list, and the entries that are still to be put behind it, are a table's; and the card has so many places left of its capacity
abbrev pub Filling : {X : Type 0} → List X → List X → List X → ℕ → ℕ → Type 0
Filling table es rest free size = (es ++ rest ≡ table) × (free + length es ≡ size)
