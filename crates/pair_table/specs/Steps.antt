-- What the steps of a check answer, of codes and entries in memory. Assumes nothing.
use Rattle.std.specs.Prelude.{◌≡◌, ℕ, ◌<◌, Bool, ◌==◌, bit_and, List, drop, Some, None, Option, slice_index_or}
use Rattle.std.proofs.Math.Bool.{beq}
use Rattle.ternary.specs.declared.words.StateCode.{StateCode}
use Rattle.ternary.specs.declared.words.StateNo.{StateNo}
use Rattle.ternary.specs.declared.entry.Entry.{Entry}
use Rattle.automaton.specs.Runs.{Dfa}
use Rattle.pairs.specs.declared.pair.PairEntry.{PairEntry}
use Rattle.pairs.specs.Carries.{Right, Carries}
use Rattle.pair_image.specs.declared.listed.Items.{Items}
use Rattle.pair_image.specs.Calls.{parts_of}
use Rattle.pair_image.specs.Format.{Parts}
use Rattle.pair_table.specs.Acceptance.{FirstWrong}

-- the code that a list of codes, in state order, gives to a state
abbrev pub listed : List StateCode → ℕ → StateCode
listed codes s = slice_index_or codes s (record { 0 = 0 })

-- entries carry a state at a first byte, whatever the second
abbrev pub RightAt : Dfa → (ℕ → StateCode) → List PairEntry → ℕ → ℕ → Type 0
RightAt a code es s b = (c : ℕ) → c < 256 → Right a code es s b c

-- an entry has the code and the class of the state that a byte leads to
abbrev pub Leads : Dfa → (ℕ → StateCode) → ℕ → ℕ → Entry → Type 0
Leads a code s b e = (e.next ≡ code (a.next s b)) × (e.class ≡ a.class (a.next s b))

-- there is an earlier first byte, and entries that carry a state there carry it at this one too
abbrev pub Alike : Dfa → (ℕ → StateCode) → List PairEntry → ℕ → ℕ → Option ℕ → Type 0
Alike a code es s b None = ⊥
Alike a code es s b (Some earlier) = RightAt a code es s earlier → RightAt a code es s b

-- the lowest second byte at which entries do not carry a state after a first byte, or none
abbrev pub WrongSecond : Dfa → (ℕ → StateCode) → List PairEntry → ℕ → ℕ → Option ℕ → Type 0
WrongSecond a code es s b None = (c : ℕ) → c < 256 → Right a code es s b c
WrongSecond a code es s b (Some c) = (c < 256) × (Right a code es s b c → ⊥) × ((y : ℕ) → y < c → Right a code es s b y)

-- the lowest bytes at which entries do not carry a state, by the first and then by the second, or none
abbrev pub WrongBytes : Dfa → (ℕ → StateCode) → List PairEntry → ℕ → Option (ℕ × ℕ) → Type 0
WrongBytes a code es s None = (b : ℕ) → b < 256 → (c : ℕ) → c < 256 → Right a code es s b c
WrongBytes a code es s (Some p) = (p.0 < 256) × WrongSecond a code es s p.0 (Some p.1) × ((x : ℕ) → x < p.0 → (y : ℕ) → y < 256 → Right a code es s x y)

-- the lowest state, and then the lowest bytes, at which entries do not carry an automaton, or none where they carry it
abbrev pub WrongPlace : Dfa → (ℕ → StateCode) → List PairEntry → Option (StateNo × ℕ × ℕ) → Type 0
WrongPlace a code es None = Carries a code es
WrongPlace a code es (Some place) = FirstWrong a code es place.0.0 place.1 place.2

-- the items of an image's list that are still to be read
abbrev pub unread : {X : Type 0} → (Parts → List X) → Items X → List X
unread list items = drop items.next (list (parts_of items.image))

-- an entry matches a code, whatever the bytes
abbrev pub accepts_code : ℕ → PairEntry → Bool
accepts_code code e = bit_and code e.entry.code_mask == e.entry.code_value

-- an entry matches a first byte, whatever the code and the second byte
abbrev pub accepts_byte : ℕ → PairEntry → Bool
accepts_byte byte e = bit_and byte e.entry.byte_mask == e.entry.byte_value

-- an entry matches both of two first bytes or none
abbrev pub alike : ℕ → ℕ → PairEntry → Bool
alike byte other e = beq (accepts_byte byte e) (accepts_byte other e)
