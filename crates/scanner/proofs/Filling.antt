-- A card that is filled entry by entry.
use Rattle.std.proofs.Common.{◌≡◌, ℕ, ◌+◌, ◌<◌, List, ◌++◌, length, Ok, Err, Result, arith, MatchResult}
use Rattle.ternary.specs.declared.entry.Entry.{Entry}
use Rattle.ternary.specs.declared.refusal.Refusal.{Refusal}
use Rattle.card.specs.Cards.{Added, Declined}

-- a card with a free place takes the entry
appended : {X : Type 0} (r : Result (Unit {0}) Refusal) (e : Entry) (es later : List Entry) (free left : ℕ) (before after : X)
    → 0 < free → MatchResult r (λ _. Added e es free later left) (λ why. Declined why free before after) → Added e es free later left
appended (Ok u) e es later free left before after room cases = cases
appended (Err why) e es later free left before after room cases = absurd (omega (arith, cases.full))

-- a card's list, and the entries that are still to be put behind it, are a table's; and the card has so many places left of its capacity
abbrev pub Filling : List Entry → List Entry → List Entry → ℕ → ℕ → Type 0
Filling table es rest free size = (es ++ rest ≡ table) × (free + length es ≡ size)
