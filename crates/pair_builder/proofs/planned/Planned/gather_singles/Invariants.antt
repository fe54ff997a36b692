use Rattle.std.proofs.Common.{◌≡◌, ◌++◌, map, take}
use Rattle.automaton.specs.Sound.{meant}
use Rattle.builder.specs.Lists.{entry_for}
use Rattle.pair_builder.specs.Unrolled.{single}
use Rattle.pair_builder.proofs.planned.Planned.gather_singles.Given as goal

-- the entries of the words so far are gathered
abbrev pub invariant-loop-word : goal.invariant-loop-word
invariant-loop-word l = l.gathered.items ≡ l.initial.gathered.items ++ map (λ w. single (entry_for (meant l.self.automaton) l.state.0 w)) (take l.word-index l.words)
