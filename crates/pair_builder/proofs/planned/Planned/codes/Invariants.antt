use Rattle.std.proofs.Common.{◌≡◌, map}
use Rattle.std.specs.List.{range_with_len}
use Rattle.automaton.specs.Sound.{meant}
use Rattle.builder.specs.Lists.{code_of}
use Rattle.pair_builder.proofs.planned.Planned.codes.Given as goal

-- the codes of the states so far
abbrev pub invariant-loop-placement : goal.invariant-loop-placement
invariant-loop-placement l = l.codes.items ≡ map (code_of (meant l.self.automaton)) (range_with_len 0 l.placement-index)
