use Rattle.std.proofs.Common.{◌≡◌, ◌++◌, string_bytes}
use Rattle.automaton.specs.Runs.{Dfa}
use Rattle.forest.specs.Deferment.{forest_of}
use Rattle.forest.specs.Plan.{PlanOf}
use Rattle.printed.specs.Lines.{width_text, ended, states_text}
use Rattle.printed.proofs.plans.plan_text.Given as goal

-- the head line and the lines of the states below s are written
abbrev pub invariant-loop-s : goal.invariant-loop-s
invariant-loop-s l = (a : Dfa) → PlanOf a l.plan → string_bytes l.text ≡ ended (width_text (forest_of a).width) ++ states_text (forest_of a) l.s
