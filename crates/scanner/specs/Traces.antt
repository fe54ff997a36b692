-- What a list of entries makes of bytes, one search a byte. Assumes nothing.
use Rattle.std.specs.Prelude.{ℕ, ◌+◌, List, [], ◌∷◌, ◌++◌, Some, None, Option}
use Rattle.ternary.specs.declared.entry.Entry.{Entry}
use Rattle.ternary.specs.declared.words.StateCode.{StateCode}
use Rattle.ternary.specs.Marks.{Marked, mark}
use Rattle.ternary.specs.Match.{Decision, first}

-- the code that bytes reach, and the marks that they give
abbrev pub Traced : Type 0
Traced = StateCode × List Marked

-- marks in front of those of what follows
abbrev pub before : List Marked → Option Traced → Option Traced
before ms None = None
before ms (Some t) = Some (t.0, ms ++ t.1)

-- the mark of the byte at a place, by its decision, and then what follows from the successor's code
abbrev pub onward : ℕ → (StateCode → Option Traced) → Option Decision → Option Traced
onward place rest None = None
onward place rest (Some d) = before (mark place d.1) (rest d.0)

-- the trace of bytes from a code, the first byte standing at the given place; none where a byte has no entry
abbrev pub trace : List Entry → StateCode → ℕ → List ℕ → Option Traced
trace es code place [] = Some (code, [])
trace es code place (b ∷ bs) = onward place (λ next. trace es next (place + 1) bs) (first es code.0 b)
