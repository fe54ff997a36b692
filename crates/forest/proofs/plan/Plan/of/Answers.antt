use Rattle.std.proofs.Common.{rules}
use Rattle.automaton.specs.Limits.{handed, dfa}
use Rattle.forest.specs.Deferment.{forest_of}
use Rattle.forest.specs.Plan.{PlanOf}
use Rattle.forest.proofs.Accept.{shadows_stand}
use Rattle.forest.proofs.Deferred.{trees_stand, deferment_stands, forest_stands, automaton_stands}
use Rattle.forest.proofs.Heaviest.{heaviest_plan}
use Rattle.forest.proofs.plan.Plan.of.Goals as goal

pub returns-clause-laws : goal.returns-clause-laws
returns-clause-laws c =
    let a = dfa (handed c.args.automaton) in
    record {
      joining = trees_stand a;
      deferment = deferment_stands a;
      shadows = shadows_stand (forest_of a) (forest_stands a).formed;
      right = automaton_stands a;
    }

pub returns-clause-heaviest : goal.returns-clause-heaviest
returns-clause-heaviest c =
    let a = dfa (handed c.args.automaton) in
    let plan = c.planned.result in
    let of : PlanOf a plan = search rules in
    heaviest_plan a plan of
