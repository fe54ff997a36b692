use Rattle.std.proofs.Common.{◌≡◌}
use Rattle.image.specs.Calls.{parts_of}
use Rattle.table.specs.Steps.{unread}
use Rattle.pair_scanner.proofs.Filling.{Filling}
use Rattle.pair_scanner.proofs.lent.fill.Given as goal

-- the card holds the entries so far, and is as large as at first
abbrev pub invariant-loop-e : goal.invariant-loop-e
invariant-loop-e g l =
    (goal.iterator-loop-e g).can_next l.e-iterator
    × (goal.iterator-loop-e g).is_finite l.e-iterator
    × Filling (parts_of l.fn.image).entries (g.C.Card.entries l.card) (unread (λ p. p.entries) l.e-iterator) (g.C.Card.free l.card) (g.C.Card.size l.initial.card)
    × (g.C.Card.size l.card ≡ g.C.Card.size l.initial.card)
