-- The acceptance rule for two-byte images: when an image decides as its automaton does, and what a check of both answers. Assumes nothing.
use Rattle.std.specs.Prelude.{◌≡◌, ℕ, ◌<◌, List, [], ◌∷◌, length, Some, None, Ok, Err, Result, slice_index_or}
use Rattle.ternary.specs.declared.refusal.Refusal.{Refusal}
use Rattle.ternary.specs.declared.words.StateCode.{StateCode}
use Rattle.ternary.specs.Refusals.{number, values}
use Rattle.automaton.specs.Limits.{Handed, Within, dfa}
use Rattle.automaton.specs.Runs.{Dfa}
use Rattle.pairs.specs.declared.pair.PairEntry.{PairEntry}
use Rattle.pairs.specs.Carries.{Right, Carries}
use Rattle.pair_image.specs.Format.{Parts, decode}
use Rattle.pair_image.specs.Rules.{fault}

-- the code that an image's parts give to a state
abbrev pub code_of : Parts → ℕ → StateCode
code_of p s = slice_index_or p.codes s (record { 0 = 0 })

-- an automaton and an image's parts agree in the number of states and in the start state
abbrev pub Agree : Handed → Parts → Type 0
Agree a p = (length p.codes ≡ a.states) × (p.start.0 ≡ a.start)

-- the acceptance rule: the automaton keeps its limits, the image has no fault, both agree, and the image's entries carry the automaton
pub record Acceptable (a : Handed) (bytes : List ℕ) : Type 0 where
  pub within : Within a
  pub sound : fault bytes ≡ None
  pub agree : Agree a (decode bytes)
  pub carries : Carries (dfa a) (code_of (decode bytes)) (decode bytes).entries

-- the lowest state, then the lowest first byte, then the lowest second byte, at which entries do not carry the automaton
pub record FirstWrong (a : Dfa) (code : ℕ → StateCode) (es : List PairEntry) (s b c : ℕ) : Type 0 where
  pub state : s < a.states
  pub byte : b < 256
  pub second : c < 256
  pub wrong : Right a code es s b c → ⊥
  pub lower_states : (r : ℕ) → r < s → (x : ℕ) → x < 256 → (y : ℕ) → y < 256 → Right a code es r x y
  pub lower_bytes : (x : ℕ) → x < b → (y : ℕ) → y < 256 → Right a code es s x y
  pub lower_seconds : (y : ℕ) → y < c → Right a code es s b y

-- why a check declines, by the number and the values of its refusal: each case only if none before it applies
pub data Refuses (a : Handed) (bytes : List ℕ) : ℕ → List ℕ → Type 0 where
  beyond : (Within a → ⊥) → Refuses a bytes 1 []
  malformed : (at : ℕ) → Within a → fault bytes ≡ Some at → Refuses a bytes 10 (at ∷ [])
  differs : Within a → fault bytes ≡ None → (Agree a (decode bytes) → ⊥) → Refuses a bytes 11 []
  wrong : (s b c : ℕ) → Within a → fault bytes ≡ None → Agree a (decode bytes) →
      FirstWrong (dfa a) (code_of (decode bytes)) (decode bytes).entries s b c → Refuses a bytes 12 (s ∷ b ∷ c ∷ [])

-- what a check answers
abbrev pub Checked : Handed → List ℕ → Result (Unit {0}) Refusal → Type 0
Checked a bytes (Ok u) = Acceptable a bytes
Checked a bytes (Err why) = Refuses a bytes (number why) (values why)

-- no other answer would be right
abbrev pub OnlyAnswer : Handed → List ℕ → Result (Unit {0}) Refusal → Type 0
OnlyAnswer a bytes r = (other : Result (Unit {0}) Refusal) → Checked a bytes other → other ≡ r
