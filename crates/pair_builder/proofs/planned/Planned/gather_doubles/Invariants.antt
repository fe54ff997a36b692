use Rattle.std.proofs.Common.{◌≡◌, ◌++◌, map, take}
use Rattle.automaton.specs.Sound.{meant}
use Rattle.builder.specs.Lists.{entry_for}
use Rattle.pair_builder.specs.Unrolled.{double}
use Rattle.pair_builder.proofs.planned.Planned.gather_doubles.Given as goal

-- the entries of the words so far are gathered
abbrev pub invariant-loop-later : goal.invariant-loop-later
invariant-loop-later l = l.gathered.items ≡ l.initial.gathered.items ++ map (λ w. double l.first (entry_for (meant l.self.automaton) l.state.0 w)) (take l.later-index l.words)
