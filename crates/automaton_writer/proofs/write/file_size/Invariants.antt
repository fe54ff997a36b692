use Rattle.std.proofs.Common.{◌≡◌, ℕ, ◌+◌, ◌*◌, ◌<◌, ◌≤◌, length}
use Rattle.automaton.specs.Sound.{meant}
use Rattle.automaton_writer.proofs.Files.{done}
use Rattle.automaton_writer.proofs.write.file_size.Given as goal

-- the size with the records so far
abbrev pub invariant-loop-number : goal.invariant-loop-number
invariant-loop-number l = record {
  size : l.size ≡ 9 + length (done (meant l.automaton) l.number);
  classes : (s : ℕ) → s < l.number → (meant l.automaton).class s < 256;
  few : l.size ≤ 9 + 1029 * l.number;
}
