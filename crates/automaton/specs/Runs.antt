-- A deterministic automaton over bytes, its run and the marks of the run. Assumes nothing.
use Rattle.std.specs.Prelude.{ℕ, ◌+◌, List, [], ◌∷◌, ◌++◌, map}
use Rattle.ternary.specs.Marks.{Marked, mark}

-- an automaton as a function: the number of states, the start, the successor of a state on a byte, the class of a state
pub record Dfa : Type 0 where
  pub states : ℕ
  pub start : ℕ
  pub next : ℕ → ℕ → ℕ
  pub class : ℕ → ℕ

-- the state that bytes lead to from the state s
abbrev pub reach : Dfa → ℕ → List ℕ → ℕ
reach a s [] = s
reach a s (b ∷ bs) = reach a (a.next s b) bs

-- the marks of bytes read from the state s, the first byte standing at the given place
abbrev pub marks : Dfa → ℕ → ℕ → List ℕ → List Marked
marks a s place [] = []
marks a s place (b ∷ bs) = mark place (a.class (a.next s b)) ++ marks a (a.next s b) (place + 1) bs

-- marks with each place raised by n
abbrev pub raised : ℕ → List Marked → List Marked
raised n = map (λ (m : Marked). (n + m.0, m.1))
