-- What two cards in tandem mean as one card. Assumes nothing.
use Rattle.std.specs.Prelude.{ℕ, ◌+◌, List, [], ◌∷◌, ◌++◌}
use Rattle.ternary.specs.declared.entry.Entry.{Entry}

-- the list: the first card's, followed by the second's
abbrev pub in_a_row : List Entry → List Entry → List Entry
in_a_row first second = first ++ second

-- the capacity: of both
abbrev pub both : ℕ → ℕ → ℕ
both first second = first + second

-- the free count: of both while the second card's list is empty, and otherwise the second's
abbrev pub free_of : ℕ → ℕ → List Entry → ℕ
free_of first second [] = first + second
free_of first second (e ∷ es) = second
