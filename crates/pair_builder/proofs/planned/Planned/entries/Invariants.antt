use Rattle.std.proofs.Common.{◌≡◌, ◌++◌}
use Rattle.automaton.specs.Sound.{meant}
use Rattle.pair_builder.specs.Choosing.{choice_of}
use Rattle.pair_builder.specs.Unrolled.{pair_levels, pair_table}
use Rattle.pair_builder.proofs.planned.Planned.entries.Given as goal

-- what is gathered and the levels that are left make the table
abbrev pub invariant-loop-depth : goal.invariant-loop-depth
invariant-loop-depth l = l.gathered.items ++ pair_levels (meant l.self.automaton) (choice_of (meant l.self.automaton)) l.depth ≡ pair_table (meant l.self.automaton) (choice_of (meant l.self.automaton))
