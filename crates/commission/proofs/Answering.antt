-- From a feed over lent buffers to a call's answer.
use Rattle.std.proofs.Common.{◌≡◌, ℕ, List, map, length, take, Ok, sym, subst}
use Rattle.ternary.specs.declared.words.Mark.{Mark}
use Rattle.ternary.specs.declared.words.Progress.{Progress}
use Rattle.ternary.specs.Marks.{marked}
use Rattle.scanner.specs.Book.{Feeds, fed}
use Rattle.scanner.specs.Scanners.{Seen, fed_told, KeepsOn}

-- a feed of the same piece, with as many slots, whose marks are kept
pub fed_call : (piece slice : List ℕ) (slots : ℕ) (buffer after kept : List Mark) (p : Progress) (before later : Seen)
    → slice ≡ piece → length buffer ≡ slots → kept ≡ take p.marks after → KeepsOn (Feeds slice (length buffer)) before (fed_told (Ok p) after) later
    → KeepsOn (Feeds piece slots) before (fed p.taken p.marks (map marked kept) p.code.0 p.marks_full p.searches) later
fed_call piece slice slots buffer after kept p before later same_piece same_slots same-marks keeps =
    subst (λ (xs : List ℕ). KeepsOn (Feeds xs slots) before (fed p.taken p.marks (map marked kept) p.code.0 p.marks_full p.searches) later) same_piece
    (subst (λ (n : ℕ). KeepsOn (Feeds slice n) before (fed p.taken p.marks (map marked kept) p.code.0 p.marks_full p.searches) later) same_slots
    (subst (λ (ms : List Mark). KeepsOn (Feeds slice (length buffer)) before (fed p.taken p.marks (map marked ms) p.code.0 p.marks_full p.searches) later) (sym same-marks) keeps))
