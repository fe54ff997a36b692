-- What the steps of a walk answer and write. Assumes nothing.
use Rattle.std.specs.Prelude.{ℕ, ◌+◌, ◌<◌, ◌≤◌, Bool, List, ◌++◌, map, length, take, drop, Result}
use Rattle.ternary.specs.declared.refusal.Refusal.{Refusal}
use Rattle.ternary.specs.declared.words.Mark.{Mark}
use Rattle.ternary.specs.declared.words.Progress.{Progress}
use Rattle.ternary.specs.Marks.{Marked, held}
use Rattle.pair_walk.specs.declared.walk.Way.{Way}
use Rattle.pair_walk.specs.Ways.{Ending}
use Rattle.pair_walk.specs.Walks.{is_full, told}

-- a buffer with marks written behind those that were written before
abbrev pub put_marks : List Mark → ℕ → List Marked → List Mark
put_marks buffer w ms = take w buffer ++ (map held ms ++ drop (w + length ms) buffer)

-- the answer of a walk that stops where it is
abbrev pub stop_at : Way → ℕ → Bool → Progress
stop_at way searches full = record { taken = way.taken; marks = way.written; code = way.code; marks_full = full; searches = way.searches + searches }

-- how far a walk comes that goes on to an ending
abbrev pub on_to : Way → Ending → Progress
on_to way e = record { taken = way.taken + e.taken; marks = way.written + length e.ms; code = e.code; marks_full = is_full e.why; searches = way.searches + e.searches }

-- and what it answers
abbrev pub told_on : Way → Ending → Result Progress Refusal
told_on way e = told e.why (on_to way e)

-- a walk within a piece, before one of its bytes
abbrev pub LongWay : Way → Type 0
LongWay way = (way.taken < 65536) × (way.searches ≤ way.taken)
