-- Which token may follow, and where a pattern is wrong. Assumes nothing.
use Rattle.std.specs.Prelude.{ℕ, zero, suc, ◌+◌, ◌-◌, Bool, false, cond, List, [], ◌∷◌, length, drop, Some, None, Option, ◌==◌, nat_lt}
use Rattle.syntax.specs.declared.follow.state.Seen.{Seen}
use Rattle.syntax.specs.declared.follow.state.Seen.TheVariants.{Nothing, Atom, Repeat}
use Rattle.syntax.specs.declared.follow.state.State.{State}
use Rattle.syntax.specs.Tokens.{Sign, literal, dot, class, open_group, close_group, bar, star, plus, question, broken, sign, width_of}

abbrev pub state : ℕ → Seen → State
state depth seen = record { depth = depth; seen = seen }

-- a sign of repetition follows an atom
abbrev pub repeats : ℕ → Seen → Option State
repeats depth Nothing = None
repeats depth Atom = Some (state depth Repeat)
repeats depth Repeat = None

-- a new branch follows one that is not empty
abbrev pub branches : ℕ → Seen → Option State
branches depth Nothing = None
branches depth Atom = Some (state depth Nothing)
branches depth Repeat = Some (state depth Nothing)

-- a parenthesis is closed after a branch that is not empty, if one is open; what it closes is an
-- atom
abbrev pub closes : ℕ → Seen → Option State
closes depth Nothing = None
closes depth Atom = cond (nat_lt 0 depth) (Some (state (depth - 1) Atom)) None
closes depth Repeat = cond (nat_lt 0 depth) (Some (state (depth - 1) Atom)) None

-- what was read once the token is, or nothing if it cannot follow
abbrev pub follows : State → Sign → Option State
follows s (literal b) = Some (state s.depth Atom)
follows s dot = Some (state s.depth Atom)
follows s (class text) = Some (state s.depth Atom)
follows s open_group = Some (state (s.depth + 1) Nothing)
follows s close_group = closes s.depth s.seen
follows s bar = branches s.depth s.seen
follows s star = repeats s.depth s.seen
follows s plus = repeats s.depth s.seen
follows s question = repeats s.depth s.seen
follows s broken = None

-- the pattern may end: no parenthesis is open, and the branch is not empty
abbrev pub complete_by : ℕ → Seen → Bool
complete_by depth Nothing = false
complete_by depth Atom = depth == 0
complete_by depth Repeat = depth == 0

abbrev pub complete : State → Bool
complete s = complete_by s.depth s.seen

-- the tokens of a text, at most n, with how many bytes each takes
abbrev pub tokens : ℕ → List ℕ → List (Sign × ℕ)
tokens zero text = []
tokens (suc n) [] = []
tokens (suc n) (b ∷ text) =
    (sign (b ∷ text), width_of (b ∷ text)) ∷ tokens n (drop (width_of (b ∷ text)) (b ∷ text))

-- the place is wrong if nothing may follow there, and else what comes next decides
abbrev pub or_next : ℕ → Option State → (State → Option ℕ) → Option ℕ
or_next place None rest = Some place
or_next place (Some next) rest = rest next

-- the place of the first token that cannot follow those before it, or of the text's end
abbrev pub fault_from : State → ℕ → List (Sign × ℕ) → Option ℕ
fault_from s place [] = cond (complete s) None (Some place)
fault_from s place (t ∷ ts) =
    or_next place (follows s t.0) (λ next. fault_from next (place + t.1) ts)

-- the same of a pattern's text
abbrev pub fault_of : List ℕ → Option ℕ
fault_of text = fault_from (state 0 Nothing) 0 (tokens (length text) text)

-- what was read once all the tokens are, or nothing if one cannot follow those before it
abbrev pub and_then : Option State → (State → Option State) → Option State
and_then None rest = None
and_then (Some next) rest = rest next

abbrev pub after : State → List Sign → Option State
after s [] = Some s
after s (t ∷ ts) = and_then (follows s t) (λ next. after next ts)
