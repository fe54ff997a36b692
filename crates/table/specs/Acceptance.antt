-- The acceptance rule: when an image decides as its automaton does, and what a check of both answers. Assumes nothing.
use Rattle.std.specs.Prelude.{◌≡◌, ℕ, ◌<◌, List, [], ◌∷◌, length, Some, None, Ok, Err, Result, slice_index_or}
use Rattle.ternary.specs.declared.entry.Entry.{Entry}
use Rattle.ternary.specs.declared.refusal.Refusal.{Refusal}
use Rattle.ternary.specs.declared.words.StateCode.{StateCode}
use Rattle.ternary.specs.Match.{first}
use Rattle.ternary.specs.Refusals.{number, values}
use Rattle.automaton.specs.Limits.{Handed, Within, dfa}
use Rattle.automaton.specs.Runs.{Dfa}
use Rattle.image.specs.Format.{Parts, decode}
use Rattle.image.specs.Rules.{fault}

-- the code that an image's parts give to a state
abbrev pub code_of : Parts → ℕ → StateCode
code_of p s = slice_index_or p.codes s (record { 0 = 0 })

-- the first entry that matches a state's code and a byte exists, and holds the successor's code and class
abbrev pub Right : Dfa → (ℕ → StateCode) → List Entry → ℕ → ℕ → Type 0
Right a code es s b = first es (code s).0 b ≡ Some (code (a.next s b), a.class (a.next s b))

-- the entries carry the automaton: so it is at every state and byte
abbrev pub Carries : Dfa → (ℕ → StateCode) → List Entry → Type 0
Carries a code es = (s : ℕ) → s < a.states → (b : ℕ) → b < 256 → Right a code es s b

-- an automaton and an image's parts agree in the number of states and in the start state
abbrev pub Agree : Handed → Parts → Type 0
Agree a p = (length p.codes ≡ a.states) × (p.start.0 ≡ a.start)

-- the acceptance rule: the automaton keeps its limits, the image has no fault, both agree, and the image's entries carry the automaton
pub record Acceptable (a : Handed) (bytes : List ℕ) : Type 0 where
  pub within : Within a
  pub sound : fault bytes ≡ None
  pub agree : Agree a (decode bytes)
  pub carries : Carries (dfa a) (code_of (decode bytes)) (decode bytes).entries

-- the lowest state, and then the lowest byte, at which entries do not carry the automaton
pub record FirstWrong (a : Dfa) (code : ℕ → StateCode) (es : List Entry) (s b : ℕ) : Type 0 where
  pub state : s < a.states
  pub byte : b < 256
  pub wrong : Right a code es s b → ⊥
  pub lower_states : (r : ℕ) → r < s → (c : ℕ) → c < 256 → Right a code es r c
  pub lower_bytes : (c : ℕ) → c < b → Right a code es s c

-- why a check declines, by the number and the values of its refusal: each case only if none before it applies
pub data Refuses (a : Handed) (bytes : List ℕ) : ℕ → List ℕ → Type 0 where
  beyond : (Within a → ⊥) → Refuses a bytes 1 []
  malformed : (at : ℕ) → Within a → fault bytes ≡ Some at → Refuses a bytes 10 (at ∷ [])
  differs : Within a → fault bytes ≡ None → (Agree a (decode bytes) → ⊥) → Refuses a bytes 11 []
  wrong : (s b : ℕ) → Within a → fault bytes ≡ None → Agree a (decode bytes) →
      FirstWrong (dfa a) (code_of (decode bytes)) (decode bytes).entries s b → Refuses a bytes 12 (s ∷ b ∷ [])

-- what a check answers
abbrev pub Checked : Handed → List ℕ → Result (Unit {0}) Refusal → Type 0
Checked a bytes (Ok u) = Acceptable a bytes
Checked a bytes (Err why) = Refuses a bytes (number why) (values why)

-- no other answer would be right
abbrev pub OnlyAnswer : Handed → List ℕ → Result (Unit {0}) Refusal → Type 0
OnlyAnswer a bytes r = (other : Result (Unit {0}) Refusal) → Checked a bytes other → other ≡ r
