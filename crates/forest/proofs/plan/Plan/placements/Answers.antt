use Rattle.std.proofs.Common.{◌∙◌}
use Rattle.forest.proofs.Plans.{placements_are}
use Rattle.forest.proofs.plan.Plan.placements.Goals as goal

pub returns-clause-placed : goal.returns-clause-placed
returns-clause-placed c a of = c.deref.ensures.0 ∙ placements_are a c.args.self.now of
