-- What compiling owes, in words of the patterns: laws above the definitions. Assumes nothing.
use Rattle.std.specs.Prelude.{ℕ, ◌+◌, ◌-◌, ◌<◌, ◌≤◌, List, [], ◌∷◌, length, IfOk, IfErr, Result, slice_index_or}
use Rattle.ternary.specs.declared.refusal.Refusal.{Refusal}
use Rattle.ternary.specs.Refusals.{KnownBy}
use Rattle.ternary.specs.declared.words.StateNo.{StateNo}
use Rattle.automaton.specs.declared.words.Header.{Header}
use Rattle.automaton.specs.Runs.{Dfa, reach}
use Rattle.automaton.specs.Limits.{Within, dfa}
use Rattle.automaton.specs.Laws.{held_in}
use Rattle.patterns.specs.Language.{Word, Regex}
use Rattle.patterns.specs.Patterns.{Class, Flags}
use Rattle.patterns.specs.Subsets.{Bytes}
use Rattle.patterns.specs.Laws.{Distinct, Reached}
use Rattle.syntax.specs.declared.places.place.Place.{Place}
use Rattle.syntax.specs.Follow.{tokens}
use Rattle.syntax.specs.Grammar.{IsPattern}
use Rattle.syntax.specs.Laws.{FirstFault}
use Rattle.syntax.specs.Compile.{texts_of, signs_of, Mean}

-- the automaton over an input is in one of its states, which has the class of the input
pub record Marks (rs : List Regex) (a : Dfa) (input : Word) : Type 0 where
  pub within : reach a a.start input < a.states
  pub class : Class rs input (a.class (reach a a.start input))

-- pattern n, counted from 1, is the first that is wrong, and is wrong at the place
pub record IsFirstWrong (ts : List (List ℕ)) (n place : ℕ) : Type 0 where
  pub some : 1 ≤ n
  pub within : n ≤ length ts
  pub fault : let text = slice_index_or ts (n - 1) [] in
      FirstFault (tokens (length text) text) place
  pub before : (k : ℕ) → k + 1 < n → IsPattern (signs_of (slice_index_or ts k []))

-- what a compiling owes: the patterns, its answer, and both buffers afterwards
module _ (buffer : List ℕ) (ps : List Place) (answer : Result Header Refusal)
    (successors : List StateNo) (marks : List ℕ) where
  -- what is handed out keeps the automaton's limits
  abbrev pub KeepsLimits : Type 0
  KeepsLimits = IfOk answer (λ h. Within (held_in h successors marks))

  -- the texts are patterns, and the automaton marks each input with its class by the expressions
  -- that they mean
  abbrev pub MarksPatterns : Type 0
  MarksPatterns = IfOk answer (λ h. (rs : List Regex) × Mean (texts_of buffer ps) rs
      × ((input : Word) → Bytes input → Marks rs (dfa (held_in h successors marks)) input))

  -- where 19 is answered, the pattern is the first that is wrong, and the place is that of its first token that cannot follow
  -- those before it, or of its end
  abbrev pub TellsFault : Type 0
  TellsFault = IfErr answer (λ why. (n place : ℕ) → KnownBy why 19 (n ∷ place ∷ [])
      → IsFirstWrong (texts_of buffer ps) n place)

  -- where 21 is answered, the texts are patterns, and over 512 sets, no two the same,
  -- are each reached by an input
  abbrev pub TellsTooMany : Type 0
  TellsTooMany = IfErr answer (λ why. KnownBy why 21 []
      → (rs : List Regex) × Mean (texts_of buffer ps) rs
      × ((ss : List Flags) × (512 < length ss) × Distinct ss × Reached rs ss))
