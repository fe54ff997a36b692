use Rattle.std.proofs.Common.{rules, ◌≡◌, sym, subst, arith}
use Rattle.automaton.specs.Sound.{meant}
use Rattle.forest.specs.Deferment.{loose_forest}
use Rattle.forest.specs.Placing.{AllInPlace}
use Rattle.forest.specs.Plan.{Planned, states_of}
use Rattle.forest.proofs.Agree.{places_rooted}
use Rattle.forest.proofs.Plans.{planned_either}
use Rattle.forest.proofs.plan.making.planned.Goals as goal

pub invariant_of-joined : goal.invariant_of-joined
invariant_of-joined c =
    let a = meant c.args.automaton in
    record {
      few = omega (arith, c.deref.ensures);
      rooted = places_rooted a c.deref.result.now (subst (AllInPlace a) (sym c.deref.ensures.0) c.defer-places.ensures);
    }

pub returns : goal.returns
returns c =
    let a = meant c.args.automaton in
    let plan = c.unwrap_or_else.result in
    planned_either a c.deref.result.now (subst (AllInPlace a) (sym c.deref.ensures.0) c.defer-places.ensures) c.plan.result c.plan.ensures plan c.unwrap_or_else.ensures
    (λ told. let flat : (states_of plan ≡ a.states) × Planned (loose_forest a) plan = search rules in flat)
