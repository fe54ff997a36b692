use Rattle.std.proofs.Common.{ℕ, ◌+◌, ◌<◌, List, get_or, None, Option, sym, ap, ◌∙◌, subst, arith}
use Rattle.forest.specs.declared.placing.Place.{Place}
use Rattle.forest.specs.Deferment.{trees_of}
use Rattle.forest.specs.Placing.{Placed, visited}
use Rattle.forest.proofs.Places.{Done, join_inside, grove_joined, twice_placed, join_more, none_more, round_ends}
use Rattle.forest.proofs.placing.place_round.Goals as goal
use Rattle.forest.proofs.placing.place_round.Goals.{in-Some, in_default}

pub visit-requires-clause-inside : goal.visit-requires-clause-inside
visit-requires-clause-inside c =
    let g = c.args.grove.now in
    let w = join_inside g.labels g.joins g.numbered c.loop-join.join-index c.in-Some.join c.in-Some.is in
    (omega (arith, w.0), omega (arith, w.1))

pub visit-requires-in-Some-clause-inside : goal.visit-requires-in-Some-clause-inside
visit-requires-in-Some-clause-inside c =
    let g = c.args.grove.now in
    let w = join_inside g.labels g.joins g.numbered c.loop-join.join-index c.in-Some.join c.in-Some.is in
    (omega (arith, w.1), omega (arith, w.0))

pub loop-join-preserved : goal.loop-join-preserved
loop-join-preserved c a grown hr p =
    let items = c.args.grove.now.joins in
    let holds = grove_joined a c.args.grove.now grown in
    let r = c.args.r in
    let i = c.loop-join.join-index in
    let places = c.loop-join.places in
    let q = c.loop-join.invariant a grown hr p in
    let Kept_at : List (Option Place) → Type 0 = λ d. Placed a (trees_of a) r d × ((k : ℕ) → k < i + 1 → Done a (trees_of a) r d (get_or items k None)) in
    elim c.match-join.branch [
      | in-Some w ↦
          let j = w.in-Some.join in
          subst Kept_at (sym (w.places-is ∙ (w.visit-in-Some.ensures ∙ ap (λ (d : List (Option Place)). visited d r j.high j.low) w.visit.ensures))) (
            twice_placed a items holds r hr places q.0 i (omega arith) q.1 j.low j.high w.in-Some.is,
            join_more a items holds r hr places q.0 i (omega arith) q.1 j.low j.high w.in-Some.is,
          )
      | in_default w ↦ subst Kept_at (sym w.places-is) (q.0, none_more a items holds r hr places q.0 i (omega arith) q.1 w.in_default.is)
    ]

pub returns : goal.returns
returns c a grown hr p =
    let q = c.loop-join.invariant a grown hr p in
    round_ends a c.args.grove.now.joins (grove_joined a c.args.grove.now grown) c.args.r c.loop-join.places q.0 (λ k hk. q.1 k (omega arith))
