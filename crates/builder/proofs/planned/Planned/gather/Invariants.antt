use Rattle.std.proofs.Common.{◌≡◌, ◌++◌}
use Rattle.automaton.specs.Sound.{meant}
use Rattle.builder.specs.Gathering.{lists_of}
use Rattle.builder.specs.Lists.{table_over}
use Rattle.builder.proofs.Blocks.{levels_over}
use Rattle.builder.proofs.planned.Planned.gather.Given as goal

-- what is gathered and the levels that are left make the table
abbrev pub invariant-loop-depth : goal.invariant-loop-depth
invariant-loop-depth l = l.gathered.items ++ levels_over (meant l.self.automaton) (lists_of (meant l.self.automaton)) l.depth ≡ table_over (meant l.self.automaton) (lists_of (meant l.self.automaton))
