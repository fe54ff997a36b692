-- The table of an automaton over a deferment forest. Assumes nothing.
use Rattle.std.specs.Prelude.{◌≡◌, ℕ, zero, suc, ◌<◌, max, cond, List, [], ◌∷◌, ◌++◌, map, Some, None, Option, ◌==◌, bit_and}
use Rattle.ternary.specs.declared.words.StateCode.{StateCode}
use Rattle.ternary.specs.declared.entry.Entry.{Entry}
use Rattle.ternary.specs.Entries.{entry_of}
use Rattle.forest.specs.Words.{ByteWord}
use Rattle.automaton.specs.Runs.{Dfa}
use Rattle.forest.specs.Forest.{Forest, code, mask}

-- the successor that the first matching word gives
abbrev pub first_word : List ByteWord → ℕ → Option ℕ
first_word [] byte = None
first_word (w ∷ ws) byte = cond (bit_and byte w.mask == bit_and w.value w.mask) (Some w.next) (first_word ws byte)

-- s may leave the byte to the state that it defers to
abbrev pub Deferrable : Dfa → Option ℕ → ℕ → ℕ → Type 0
Deferrable a None s byte = ⊥
Deferrable a (Some p) s byte = a.next s byte ≡ a.next p byte

-- what the first word that matches a byte has to give: the successor; where none matches, the byte is deferrable
abbrev pub Gives : Dfa → Forest → ℕ → ℕ → Option ℕ → Type 0
Gives a f s byte (Some t) = t ≡ a.next s byte
Gives a f s byte None = Deferrable a (f.parent s) s byte

-- the byte rule: so it is for every state and byte
abbrev pub ByteRule : Dfa → Forest → (ℕ → List ByteWord) → Type 0
ByteRule a f words = (s byte : ℕ) → s < f.states → byte < 256 → Gives a f s byte (first_word (words s) byte)

-- what a card answers for the successor t: its code and its class
abbrev pub decision : Dfa → Forest → ℕ → StateCode × ℕ
decision a f t = (record { 0 = code f t }, a.class t)

-- a word of s behind the shadow of s
abbrev pub entry : Dfa → Forest → ℕ → ByteWord → Entry
entry a f s w = entry_of (code f s) (mask f s) w.value w.mask (record { 0 = code f w.next }) (a.class w.next)

-- the words of s behind its shadow
abbrev pub block : Dfa → Forest → (ℕ → List ByteWord) → ℕ → List Entry
block a f words s = map (entry a f s) (words s)

-- the blocks of the states below n at depth d, lower numbers first
abbrev pub level : Dfa → Forest → (ℕ → List ByteWord) → ℕ → ℕ → List Entry
level a f words d zero = []
level a f words d (suc n) = level a f words d n ++ cond (f.depth n == d) (block a f words n) []

-- the levels below d, deeper first
abbrev pub levels : Dfa → Forest → (ℕ → List ByteWord) → ℕ → List Entry
levels a f words zero = []
levels a f words (suc d) = level a f words d f.states ++ levels a f words d

-- one more than the largest depth of the states below n
abbrev pub height : Forest → ℕ → ℕ
height f zero = 0
height f (suc n) = max (height f n) (suc (f.depth n))

-- the table: the blocks of all states, deeper states first, then lower numbers
abbrev pub table : Dfa → Forest → (ℕ → List ByteWord) → List Entry
table a f words = levels a f words (height f f.states)
