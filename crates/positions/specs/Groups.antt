-- What was read of a pattern so far, and the frames of its parse. Assumes nothing.
use Rattle.std.specs.Prelude.{◌≡◌, ℕ, ◌+◌, List, [], ◌∷◌, ◌++◌, length, None, slice_index_or}
use Rattle.patterns.specs.Language.{Regex, atom, many, maybe}
use Rattle.patterns.specs.Patterns.{total}
use Rattle.syntax.specs.Tokens.{Sign, literal, dot, class, open_group, close_group, bar, star, plus, question, broken}
use Rattle.syntax.specs.Parse.{Frame, frame, push, repeat, whole, closed, parse}
use Rattle.syntax.specs.Compile.{known, signs_of}
use Rattle.positions.specs.declared.tables.Tables.{Tables}
use Rattle.positions.specs.declared.groups.Group.{Group}
use Rattle.positions.specs.declared.groups.Groups.{Groups}
use Rattle.positions.specs.Tables.{is_read, IsOptional, AreTables, listed, width}

-- the group's parts are those of the frame, whose positions start at k
pub record IsGroup (group : Group) (k : ℕ) (f : Frame) : Type 0 where
  pub of_branches : IsOptional group.branches k f.branches
  pub of_pieces : IsOptional group.pieces (k + width f.branches) f.pieces
  pub of_piece : IsOptional group.piece (k + width f.branches + width f.pieces) f.piece

-- the expressions of a frame, in their order
abbrev pub parts_of : Frame → List Regex
parts_of f = listed f.branches ++ (listed f.pieces ++ listed f.piece)

-- the expressions before the innermost frame: those of the patterns before and of the frames
-- around it
abbrev pub outer_parts : List Regex → List Frame → List Regex
outer_parts done [] = done
outer_parts done (g ∷ fs) = outer_parts done fs ++ parts_of g

-- the group at a place
abbrev pub group_at : List Group → ℕ → Group
group_at around place =
    slice_index_or around place (record { branches = None; pieces = None; piece = None })

-- the groups are those of the frames, the outermost first
abbrev pub AreAround : List Group → List Regex → List Frame → Type 0
AreAround around done [] = Unit {0}
AreAround around done (g ∷ fs) =
    IsGroup (group_at around (length fs)) (total (outer_parts done fs)) g × AreAround around done fs

-- the tables and the groups are those of the innermost frame, of those around it and of the
-- patterns before
pub record IsParsed (t : Tables) (groups : Groups) (done : List Regex) (f : Frame) (fs : List Frame)
    : Type 0 where
  pub deep : groups.depth ≡ length fs
  pub tables : AreTables t (outer_parts done fs ++ parts_of f)
  pub inner : IsGroup groups.inner (total (outer_parts done fs)) f
  pub around : AreAround groups.around done fs

-- the frames once a token was read: the innermost, and those around it
abbrev pub closed_frames : Frame → List Frame → Frame × List Frame
closed_frames f [] = (f, [])
closed_frames f (g ∷ fs) = (closed (whole f) g, fs)

abbrev pub next_frames : Sign → Frame → List Frame → Frame × List Frame
next_frames (literal b) f fs = (push f (atom (is_read (literal b))), fs)
next_frames dot f fs = (push f (atom (is_read dot)), fs)
next_frames (class text) f fs = (push f (atom (is_read (class text))), fs)
next_frames open_group f fs = (frame None None None, f ∷ fs)
next_frames close_group f fs = closed_frames f fs
next_frames bar f fs = (frame (whole f) None None, fs)
next_frames star f fs = (repeat f (λ r. maybe (many r)), fs)
next_frames plus f fs = (repeat f many, fs)
next_frames question f fs = (repeat f maybe, fs)
next_frames broken f fs = (f, fs)

-- a token turns the tables and the groups of any frames into those of the next ones
abbrev pub ReadsSign : Tables → Groups → Tables → Groups → Sign → Type 0
ReadsSign t groups new_t new_groups s =
    (done : List Regex) (f : Frame) (fs : List Frame) → IsParsed t groups done f fs
    → IsParsed new_t new_groups done (next_frames s f fs).0 (next_frames s f fs).1

-- how many positions a token has
abbrev pub atom_count : Sign → ℕ
atom_count (literal b) = 1
atom_count dot = 1
atom_count (class text) = 1
atom_count open_group = 0
atom_count close_group = 0
atom_count bar = 0
atom_count star = 0
atom_count plus = 0
atom_count question = 0
atom_count broken = 0

-- how many positions some tokens have
abbrev pub atoms : List Sign → ℕ
atoms [] = 0
atoms (t ∷ ts) = atom_count t + atoms ts

-- the expression of a pattern's text
unfoldable pub expression : List ℕ → Regex
expression text = known (parse (signs_of text))
