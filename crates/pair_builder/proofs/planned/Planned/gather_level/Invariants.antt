use Rattle.std.proofs.Common.{◌≡◌, ◌++◌}
use Rattle.automaton.specs.Sound.{meant}
use Rattle.pair_builder.specs.Choosing.{choice_of}
use Rattle.pair_builder.specs.Unrolled.{pair_level}
use Rattle.pair_builder.proofs.planned.Planned.gather_level.Given as goal

-- the entries of the states so far are gathered
abbrev pub invariant-loop-s : goal.invariant-loop-s
invariant-loop-s l = l.gathered.items ≡ l.initial.gathered.items ++ pair_level (meant l.self.automaton) (choice_of (meant l.self.automaton)) l.depth l.s
