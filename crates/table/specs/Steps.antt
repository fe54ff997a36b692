-- What the steps of a check answer, of codes and entries in memory. Assumes nothing.
use Rattle.std.specs.Prelude.{ℕ, ◌<◌, Bool, ◌==◌, bit_and, List, [], ◌∷◌, cond, drop, Some, None, Option, slice_index_or}
use Rattle.ternary.specs.declared.entry.Entry.{Entry}
use Rattle.ternary.specs.declared.words.StateCode.{StateCode}
use Rattle.ternary.specs.declared.words.StateNo.{StateNo}
use Rattle.automaton.specs.Runs.{Dfa}
use Rattle.image.specs.declared.listed.Items.{Items}
use Rattle.image.specs.Calls.{parts_of}
use Rattle.image.specs.Format.{Parts}
use Rattle.table.specs.Acceptance.{Right, Carries, FirstWrong}

-- the code that a list of codes, in state order, gives to a state
abbrev pub listed : List StateCode → ℕ → StateCode
listed codes s = slice_index_or codes s (record { 0 = 0 })

-- the lowest byte at which entries do not carry a state, or none where they carry it at every byte
abbrev pub WrongByte : Dfa → (ℕ → StateCode) → List Entry → ℕ → Option ℕ → Type 0
WrongByte a code es s None = (b : ℕ) → b < 256 → Right a code es s b
WrongByte a code es s (Some b) = (b < 256) × (Right a code es s b → ⊥) × ((c : ℕ) → c < b → Right a code es s c)

-- the lowest state, and then the lowest byte, at which entries do not carry an automaton, or none where they carry it
abbrev pub WrongPlace : Dfa → (ℕ → StateCode) → List Entry → Option (StateNo × ℕ) → Type 0
WrongPlace a code es None = Carries a code es
WrongPlace a code es (Some place) = FirstWrong a code es place.0.0 place.1

-- the items of an image's list that are still to be read
abbrev pub unread : {X : Type 0} → (Parts → List X) → Items X → List X
unread list items = drop items.next (list (parts_of items.image))

-- an entry matches a code, whatever the byte
abbrev pub accepts : ℕ → Entry → Bool
accepts code e = bit_and code e.code_mask == e.code_value

-- the entries that decide for a code: those that match it, up to the first that matches it with every byte
abbrev pub deciding : ℕ → List Entry → List Entry
deciding code [] = []
deciding code (e ∷ es) = cond (accepts code e) (e ∷ cond (e.byte_mask == 0) [] (deciding code es)) (deciding code es)
