-- Entries over a code and two bytes, and the first match over a list of them. Assumes nothing.
use Rattle.std.specs.Prelude.{◌≡◌, ℕ, Bool, true, false, ◌&&◌, List, [], ◌∷◌, ◌++◌, Some, None, Option, ◌==◌, bit_and}
use Rattle.std.specs.List.{AllByRecursion}
use Rattle.ternary.specs.declared.words.StateCode.{StateCode}
use Rattle.ternary.specs.Match.{Agrees}
use Rattle.ternary.specs.Match as one
use Rattle.pairs.specs.declared.stride.Stride.{Stride}
use Rattle.pairs.specs.declared.pair.PairEntry.{PairEntry}

-- an entry matches a code and two bytes when all compared bits of the three agree
abbrev pub Matches : PairEntry → ℕ → ℕ → ℕ → Type 0
Matches e code byte second = one.Matches e.entry code byte × Agrees e.second_value e.second_mask second

-- what an entry decides: the successor's code, its class, and the bytes that it takes
abbrev pub Decision : Type 0
Decision = StateCode × ℕ × Stride

-- the decision of an entry
abbrev pub decision : PairEntry → Decision
decision e = (e.entry.next, e.entry.class, e.stride)

-- no entry of a list matches
abbrev pub NoneMatch : List PairEntry → ℕ → ℕ → ℕ → Type 0
NoneMatch es code byte second = AllByRecursion (λ e. Matches e code byte second → ⊥) es

-- an answer is the first match: an entry that matches, with none before it that does; or none does at all
abbrev pub IsFirst : List PairEntry → ℕ → ℕ → ℕ → Option Decision → Type 0
IsFirst es code byte second None = NoneMatch es code byte second
IsFirst es code byte second (Some d) =
    (before : List PairEntry) × (e : PairEntry) × (after : List PairEntry) × (es ≡ before ++ e ∷ after) × NoneMatch before code byte second × Matches e code byte second × (d ≡ decision e)

-- the test for a match
abbrev pub matches : PairEntry → ℕ → ℕ → ℕ → Bool
matches e code byte second = one.matches e.entry code byte && bit_and second e.second_mask == e.second_value

-- the decision of an entry that matches, else what the later entries say
abbrev pub pick : Bool → PairEntry → Option Decision → Option Decision
pick true e later = Some (decision e)
pick false e later = later

-- the first match over a list
abbrev pub first : List PairEntry → ℕ → ℕ → ℕ → Option Decision
first [] code byte second = None
first (e ∷ es) code byte second = pick (matches e code byte second) e (first es code byte second)
