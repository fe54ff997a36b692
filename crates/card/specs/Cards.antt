-- What the questions and the appends of a card say. Assumes nothing.
use Rattle.std.specs.Prelude.{◌≡◌, ℕ, ◌+◌, ◌<◌, Bool, true, false, List, [], ◌∷◌, ◌++◌}
use Rattle.ternary.specs.declared.entry.Entry.{Entry}
use Rattle.ternary.specs.declared.refusal.Refusal.{Refusal}
use Rattle.ternary.specs.Refusals.{KnownBy}

-- whether a list has no entry
abbrev pub no_entry : List Entry → Bool
no_entry [] = true
no_entry (e ∷ es) = false

-- an append is accepted: a place was free, the entry stands last, and one place fewer is free
pub record Added (e : Entry) (entries : List Entry) (free : ℕ) (later : List Entry) (left : ℕ) : Type 0 where
  pub room : 0 < free
  pub last : later ≡ entries ++ e ∷ []
  pub taken : left + 1 ≡ free

-- an append is declined by refusal 5: no place was free, and the card is as it was
pub record Declined {Made : Type 0} (why : Refusal) (free : ℕ) (before after : Made) : Type 0 where
  pub full : free ≡ 0
  pub refusal : KnownBy why 5 []
  pub unchanged : after ≡ before
