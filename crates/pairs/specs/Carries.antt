-- When entries over two bytes decide as an automaton does. Assumes nothing.
use Rattle.std.specs.Prelude.{◌≡◌, ℕ, ◌<◌, List, Some, None, Option}
use Rattle.ternary.specs.declared.words.StateCode.{StateCode}
use Rattle.automaton.specs.Runs.{Dfa}
use Rattle.pairs.specs.declared.stride.Stride.{Stride}
use Rattle.pairs.specs.declared.stride.Stride.TheVariants.{One, Two}
use Rattle.pairs.specs.declared.pair.PairEntry.{PairEntry}
use Rattle.pairs.specs.Match.{Decision, first}

-- the state that a stride reaches from the state s over two bytes
abbrev pub reached : Dfa → ℕ → ℕ → ℕ → Stride → ℕ
reached a s b c One = a.next s b
reached a s b c Two = a.next (a.next s b) c

-- no byte that a stride passes over gives a mark: the state between has class 0
abbrev pub PassesNoMark : Dfa → ℕ → ℕ → Stride → Type 0
PassesNoMark a s b One = Unit {0}
PassesNoMark a s b Two = a.class (a.next s b) ≡ 0

-- a decision is right at a state and two bytes: there is one, it has the code and the class of the state that its stride reaches, and passes over no mark
abbrev pub RightStep : Dfa → (ℕ → StateCode) → ℕ → ℕ → ℕ → Option Decision → Type 0
RightStep a code s b c None = ⊥
RightStep a code s b c (Some d) = (d.0 ≡ code (reached a s b c d.2)) × (d.1 ≡ a.class (reached a s b c d.2)) × PassesNoMark a s b d.2

-- the first entry that matches a state's code and two bytes decides rightly
abbrev pub Right : Dfa → (ℕ → StateCode) → List PairEntry → ℕ → ℕ → ℕ → Type 0
Right a code es s b c = RightStep a code s b c (first es (code s).0 b c)

-- the entries carry the automaton: so it is at every state and every two bytes
abbrev pub Carries : Dfa → (ℕ → StateCode) → List PairEntry → Type 0
Carries a code es = (s : ℕ) → s < a.states → (b : ℕ) → b < 256 → (c : ℕ) → c < 256 → Right a code es s b c
