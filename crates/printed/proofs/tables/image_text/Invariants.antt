use Rattle.std.proofs.Common.{◌≡◌, ◌++◌, string_bytes}
use Rattle.std.specs.List.{flat_map}
use Rattle.image.specs.Calls.{parts_of}
use Rattle.table.specs.Steps.{unread}
use Rattle.printed.specs.Images.{entry_row, image_text}
use Rattle.printed.proofs.tables.image_text.Given as goal

-- what is written so far and the lines of the entries that are still to be read are the whole table
abbrev pub invariant-loop-entry : goal.invariant-loop-entry
invariant-loop-entry l =
    goal.iterator-loop-entry.can_next l.entry-iterator
    × goal.iterator-loop-entry.is_finite l.entry-iterator
    × (string_bytes l.text ++ flat_map (entry_row (parts_of l.fn.image).width) (unread (λ p. p.entries) l.entry-iterator) ≡ image_text (parts_of l.fn.image))
