-- Ternary entries and the first match over a list of them. Assumes nothing.
use Rattle.std.specs.Prelude.{◌≡◌, ℕ, Bool, true, false, ◌&&◌, List, [], ◌∷◌, ◌++◌, Some, None, Option, ◌==◌, bit_and}
use Rattle.std.specs.List.{AllByRecursion}
use Rattle.ternary.specs.declared.entry.Entry.{Entry}
use Rattle.ternary.specs.declared.words.StateCode.{StateCode}
use Rattle.ternary.specs.Bits.{bit}

-- all compared bits agree: wherever the mask has a bit, the number has the bit of the value
abbrev pub Agrees : ℕ → ℕ → ℕ → Type 0
Agrees value mask n = (p : ℕ) → bit mask p ≡ true → bit n p ≡ bit value p

-- an entry matches a code and a byte when all compared bits of both agree
abbrev pub Matches : Entry → ℕ → ℕ → Type 0
Matches e code byte = Agrees e.code_value e.code_mask code × Agrees e.byte_value e.byte_mask byte

-- what an entry decides: the successor's code and its class
abbrev pub Decision : Type 0
Decision = StateCode × ℕ

-- the decision of an entry
abbrev pub decision : Entry → Decision
decision e = (e.next, e.class)

-- no entry of a list matches
abbrev pub NoneMatch : List Entry → ℕ → ℕ → Type 0
NoneMatch es code byte = AllByRecursion (λ e. Matches e code byte → ⊥) es

-- an answer is the first match: an entry that matches, with none before it that does; or none does at all
abbrev pub IsFirst : List Entry → ℕ → ℕ → Option Decision → Type 0
IsFirst es code byte None = NoneMatch es code byte
IsFirst es code byte (Some d) =
    (before : List Entry) × (e : Entry) × (after : List Entry) × (es ≡ before ++ e ∷ after) × NoneMatch before code byte × Matches e code byte × (d ≡ decision e)

-- the test for a match: what is left of the code and of the byte under the masks is the values
abbrev pub matches : Entry → ℕ → ℕ → Bool
matches e code byte = bit_and code e.code_mask == e.code_value && bit_and byte e.byte_mask == e.byte_value

-- the decision of an entry that matches, else what the later entries say
abbrev pub pick : Bool → Entry → Option Decision → Option Decision
pick true e later = Some (decision e)
pick false e later = later

-- the first match over a list
abbrev pub first : List Entry → ℕ → ℕ → Option Decision
first [] code byte = None
first (e ∷ es) code byte = pick (matches e code byte) e (first es code byte)
