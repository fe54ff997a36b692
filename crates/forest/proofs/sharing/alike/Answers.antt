use Rattle.std.proofs.Common.{◌≡◌, ◌==◌, inl, inr, count_by, arith}
use Rattle.std.specs.List.{zip}
use Rattle.std.proofs.lemmas.List.Sums.{count_by-le-length}
use Rattle.std.proofs.lemmas.Slice.Zip.{length-zip}
use Rattle.forest.proofs.sharing.alike.Goals as goal

pub overflow_add-total : goal.overflow_add-total
overflow_add-total c = record {
  fits =
      omega (
        arith,
        c.loop-x.invariant,
        c.told-row,
        count_by-le-length (λ p. p.0.0 == p.1.0) (zip c.args.row.now c.args.other.now),
        length-zip c.args.row.now c.args.other.now,
      );
}

pub returns : goal.returns
returns c =
    let left = c.loop-x.x-iterator in
    let none : count_by (λ p. p.0.0 == p.1.0) (zip left.a.rest.now left.b.rest.now) ≡ 0 =
    elim c.in-None.ensures.steps [
      | inl e ↦ omega (arith, e.1.0, count_by-le-length (λ p. p.0.0 == p.1.0) (zip left.a.rest.now left.b.rest.now), length-zip left.a.rest.now left.b.rest.now)
      | inr e ↦ omega (arith, e.1.0, count_by-le-length (λ p. p.0.0 == p.1.0) (zip left.a.rest.now left.b.rest.now), length-zip left.a.rest.now left.b.rest.now)
    ] in
    record { count = omega (arith, none, c.loop-x.invariant) }
