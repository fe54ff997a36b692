-- The expression of a token list, token by token. Assumes nothing.
use Rattle.std.specs.Prelude.{true, List, [], ◌∷◌, Some, None, Option, nat_eq}
use Rattle.patterns.specs.Language.{Regex, atom, either, both, many, maybe}
use Rattle.syntax.specs.Class.{holds}
use Rattle.syntax.specs.Tokens.{Sign, literal, dot, class, open_group, close_group, bar, star, plus, question, broken}

-- what was read since an open parenthesis: the branches before, the pieces before in this branch,
-- the last piece
pub record Frame : Type 0 where
  pub branches : Option Regex
  pub pieces : Option Regex
  pub piece : Option Regex

abbrev pub frame : Option Regex → Option Regex → Option Regex → Frame
frame branches pieces piece = record { branches = branches; pieces = pieces; piece = piece }

-- one after another, one or another, where either may be absent
abbrev pub join : Option Regex → Option Regex → Option Regex
join None r = r
join (Some l) None = Some l
join (Some l) (Some r) = Some (both l r)

abbrev pub choose : Option Regex → Option Regex → Option Regex
choose None r = r
choose (Some l) None = Some l
choose (Some l) (Some r) = Some (either l r)

-- an atom becomes the last piece
abbrev pub push : Frame → Regex → Frame
push f r = frame f.branches (join f.pieces f.piece) (Some r)

-- the last piece is repeated
abbrev pub change : (Regex → Regex) → Option Regex → Option Regex
change g None = None
change g (Some r) = Some (g r)

abbrev pub repeat : Frame → (Regex → Regex) → Frame
repeat f g = frame f.branches f.pieces (change g f.piece)

-- the expression of a frame
abbrev pub whole : Frame → Option Regex
whole f = choose f.branches (join f.pieces f.piece)

-- the frame of the parenthesis that is closed becomes an atom of the one around it
abbrev pub closed : Option Regex → Frame → Frame
closed None f = f
closed (Some r) f = push f r

-- the expression of the tokens, with the frames around the innermost
abbrev pub build : List Sign → Frame → List Frame → Option Regex
build [] f fs = whole f
build (literal b ∷ ts) f fs = build ts (push f (atom (nat_eq b))) fs
build (dot ∷ ts) f fs = build ts (push f (atom (λ b. true))) fs
build (class text ∷ ts) f fs = build ts (push f (atom (holds text))) fs
build (open_group ∷ ts) f fs = build ts (frame None None None) (f ∷ fs)
build (close_group ∷ ts) f [] = None
build (close_group ∷ ts) f (g ∷ fs) = build ts (closed (whole f) g) fs
build (bar ∷ ts) f fs = build ts (frame (whole f) None None) fs
build (star ∷ ts) f fs = build ts (repeat f (λ r. maybe (many r))) fs
build (plus ∷ ts) f fs = build ts (repeat f many) fs
build (question ∷ ts) f fs = build ts (repeat f maybe) fs
build (broken ∷ ts) f fs = None

-- the expression of a pattern
abbrev pub parse : List Sign → Option Regex
parse ts = build ts (frame None None None) []
