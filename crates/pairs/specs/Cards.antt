-- What the list card of two-byte entries means, and what its appends say. Assumes nothing.
use Rattle.std.specs.Prelude.{◌≡◌, ℕ, ◌+◌, ◌-◌, ◌<◌, Bool, true, false, List, [], ◌∷◌, ◌++◌, length, take}
use Rattle.ternary.specs.declared.refusal.Refusal.{Refusal}
use Rattle.ternary.specs.Refusals.{KnownBy}
use Rattle.pairs.specs.declared.pair.PairEntry.{PairEntry}
use Rattle.pairs.specs.declared.list.PairCard.{PairCard}

-- the list: the places in use at the front of the buffer, in order
abbrev pub listed : PairCard → List PairEntry
listed c = take c.used c.buffer.now

-- the free count: the places behind them
abbrev pub unused : PairCard → ℕ
unused c = length c.buffer.now - c.used

-- the capacity: all places of the buffer
abbrev pub places : PairCard → ℕ
places c = length c.buffer.now

-- whether a list has no entry
abbrev pub no_entry : List PairEntry → Bool
no_entry [] = true
no_entry (e ∷ es) = false

-- an append is accepted: a place was free, the entry stands last, and one place fewer is free
pub record Added (e : PairEntry) (entries : List PairEntry) (free : ℕ) (later : List PairEntry) (left : ℕ) : Type 0 where
  pub room : 0 < free
  pub last : later ≡ entries ++ e ∷ []
  pub taken : left + 1 ≡ free

-- an append is declined by refusal 5: no place was free, and the card is as it was
pub record Declined (why : Refusal) (free : ℕ) (before after : PairCard) : Type 0 where
  pub full : free ≡ 0
  pub refusal : KnownBy why 5 []
  pub unchanged : after ≡ before
