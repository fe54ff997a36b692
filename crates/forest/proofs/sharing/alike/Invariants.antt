use Rattle.std.proofs.Common.{◌≡◌, ◌+◌, count_by, ◌==◌}
use Rattle.std.specs.List.{zip}
use Rattle.forest.proofs.sharing.alike.Given as goal

-- the places so far are counted, and the rest are left
abbrev pub invariant-loop-x : goal.invariant-loop-x
invariant-loop-x l = l.total + count_by (λ p. p.0.0 == p.1.0) (zip l.x-iterator.a.rest.now l.x-iterator.b.rest.now) ≡ count_by (λ p. p.0.0 == p.1.0) (zip l.fn.row l.fn.other)
