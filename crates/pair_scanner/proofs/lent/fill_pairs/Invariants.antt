use Rattle.std.proofs.Common.{◌≡◌}
use Rattle.pair_image.specs.Calls.{parts_of}
use Rattle.pair_table.specs.Steps.{unread}
use Rattle.pairs.specs.Cards.{listed, unused, places}
use Rattle.pair_scanner.proofs.Filling.{Filling}
use Rattle.pair_scanner.proofs.lent.fill_pairs.Given as goal

-- the card holds the entries so far, and is as large as at first
abbrev pub invariant-loop-e : goal.invariant-loop-e
invariant-loop-e l =
    goal.iterator-loop-e.can_next l.e-iterator
    × goal.iterator-loop-e.is_finite l.e-iterator
    × Filling (parts_of l.fn.image).entries (listed l.card) (unread (λ p. p.entries) l.e-iterator) (unused l.card) (places l.initial.card)
    × (places l.card ≡ places l.initial.card)
