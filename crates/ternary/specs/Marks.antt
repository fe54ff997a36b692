-- Marks, with places that no piece bounds. Assumes nothing.
use Rattle.std.specs.Prelude.{ℕ, cond, codes, decimal, List, [], ◌∷◌, ◌++◌, ◌==◌}
use Rattle.ternary.specs.declared.words.Mark.{Mark}

-- a mark is a place and a class
abbrev pub Marked : Type 0
Marked = ℕ × ℕ

-- what a mark in a buffer says
abbrev pub marked : Mark → Marked
marked m = (m.place, m.class)

-- how a buffer holds a mark
abbrev pub held : Marked → Mark
held m = record { place = m.0; class = m.1 }

-- a byte at a place that leads to a class: class 0 gives no mark
abbrev pub mark : ℕ → ℕ → List Marked
mark place class = cond (class == 0) [] ((place, class) ∷ [])

-- a mark as it is printed
abbrev pub mark_text : Mark → List ℕ
mark_text m = codes "(" ++ (decimal m.place ++ (codes ", " ++ (decimal m.class ++ codes ")")))
