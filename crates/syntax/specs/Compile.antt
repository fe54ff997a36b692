-- From the texts of patterns to their automaton, with every refusal in its order. Assumes nothing.
use Rattle.std.specs.Prelude.{◌≡◌, ℕ, suc, ◌+◌, ◌-◌, max, Bool, false, cond, ◌||◌, List, [], ◌∷◌, length, take, drop, Some, None, Option, ◌==◌, nat_lt}
use Rattle.patterns.specs.Language.{Word, Regex, atom}
use Rattle.patterns.specs.Patterns.{total}
use Rattle.patterns.specs.Subsets.{Bytes, Automaton, automaton_of, states_of}
use Rattle.patterns.specs.Laws.{Follows}
use Rattle.syntax.specs.declared.places.place.Place.{Place}
use Rattle.syntax.specs.Tokens.{Sign, literal, dot, class, open_group, close_group, bar, star, plus, question, broken}
use Rattle.syntax.specs.Follow.{tokens, fault_of}
use Rattle.syntax.specs.Grammar.{a_pattern, Parses}
use Rattle.syntax.specs.Parse.{parse}
use Rattle.syntax.specs.Laws.{signs}

-- what comes of a list of patterns; the output buffers are checked after this
pub data Outcome : Type 0 where
  -- 14: a pattern leaves the buffer
  outside : Outcome
  -- 19: the pattern of this number is wrong at this place
  wrong_at : ℕ → ℕ → Outcome
  -- 20: no patterns, or too many, or too many positions, or parentheses too deep
  too_large : Outcome
  -- 21: too many sets of positions
  too_many_sets : Outcome
  built : Automaton → Outcome

-- the texts of the patterns
abbrev pub texts_of : List ℕ → List Place → List (List ℕ)
texts_of buffer [] = []
texts_of buffer (p ∷ ps) = take p.len (drop p.start buffer) ∷ texts_of buffer ps

-- some pattern leaves the buffer
abbrev pub leaves : List ℕ → List Place → Bool
leaves buffer [] = false
leaves buffer (p ∷ ps) = nat_lt (length buffer) (p.start + p.len) || leaves buffer ps

-- the tokens of a text
abbrev pub signs_of : List ℕ → List Sign
signs_of text = signs (tokens (length text) text)

-- the first pattern, counted from i, that is wrong, and where
abbrev pub or_later : ℕ → Option ℕ → Option (ℕ × ℕ) → Option (ℕ × ℕ)
or_later i None later = later
or_later i (Some place) later = Some (i, place)

abbrev pub first_wrong : ℕ → List (List ℕ) → Option (ℕ × ℕ)
first_wrong i [] = None
first_wrong i (t ∷ ts) = or_later i (fault_of t) (first_wrong (suc i) ts)

-- the expressions of the texts; a text with a fault has none, and is not asked for one
abbrev pub known : Option Regex → Regex
known None = atom (λ b. false)
known (Some r) = r

abbrev pub expressions : List (List ℕ) → List Regex
expressions [] = []
expressions (t ∷ ts) = known (parse (signs_of t)) ∷ expressions ts

-- how deep the parentheses are
abbrev pub deeper : ℕ → Sign → ℕ
deeper depth (literal b) = depth
deeper depth dot = depth
deeper depth (class text) = depth
deeper depth open_group = depth + 1
deeper depth close_group = depth - 1
deeper depth bar = depth
deeper depth star = depth
deeper depth plus = depth
deeper depth question = depth
deeper depth broken = depth

abbrev pub deepest : ℕ → List Sign → ℕ
deepest depth [] = depth
deepest depth (t ∷ ts) = max depth (deepest (deeper depth t) ts)

abbrev pub any_deep : List (List ℕ) → Bool
any_deep [] = false
any_deep (t ∷ ts) = nat_lt 32 (deepest 0 (signs_of t)) || any_deep ts

-- no patterns or over 32, over 256 positions, or parentheses over 32 deep
unfoldable pub is_too_large : List (List ℕ) → Bool
is_too_large ts =
    (length ts == 0 || nat_lt 32 (length ts)) || (nat_lt 256 (total (expressions ts)) || any_deep ts)

-- over 512 sets of positions can be reached
unfoldable pub too_many : List Regex → Bool
too_many rs = nat_lt 512 (length (states_of rs))

abbrev pub build_all : List (List ℕ) → Outcome
build_all ts = cond (is_too_large ts) too_large
    (cond (too_many (expressions ts)) too_many_sets (built (automaton_of (expressions ts))))

abbrev pub unless_wrong : Option (ℕ × ℕ) → Outcome → Outcome
unless_wrong None rest = rest
unless_wrong (Some w) rest = wrong_at w.0 w.1

-- the automaton of the patterns, or the first refusal
abbrev pub compile : List ℕ → List Place → Outcome
compile buffer ps =
    cond (leaves buffer ps) outside
    (unless_wrong (first_wrong 1 (texts_of buffer ps)) (build_all (texts_of buffer ps)))

-- each text is a pattern and means its expression
abbrev pub Mean : List (List ℕ) → List Regex → Type 0
Mean [] [] = Unit {0}
Mean [] (r ∷ rs) = ⊥
Mean (t ∷ ts) [] = ⊥
Mean (t ∷ ts) (r ∷ rs) = Parses a_pattern (signs_of t) r × Mean ts rs

-- an automaton that is built follows the patterns that the texts mean
abbrev pub CompileStands : Type 0
CompileStands = (buffer : List ℕ) (ps : List Place) (a : Automaton) → compile buffer ps ≡ built a
    → (rs : List Regex) × Mean (texts_of buffer ps) rs
    × ((input : Word) → Bytes input → Follows rs a input)
