use Rattle.std.proofs.Common.{◌≡◌, ◌++◌}
use Rattle.automaton.specs.Sound.{meant}
use Rattle.builder.specs.Gathering.{lists_of, level_over}
use Rattle.builder.proofs.planned.Planned.gather_level.Given as goal

-- the entries of the states so far are gathered
abbrev pub invariant-loop-s : goal.invariant-loop-s
invariant-loop-s l = l.gathered.items ≡ l.initial.gathered.items ++ level_over (meant l.self.automaton) (lists_of (meant l.self.automaton)) l.depth l.s
