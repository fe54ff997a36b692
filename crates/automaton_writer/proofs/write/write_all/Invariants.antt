use Rattle.std.proofs.Common.{◌≡◌, ◌+◌, ◌-◌, ◌++◌, ◌∷◌, length}
use Rattle.fields.specs.Fields.{be32, written}
use Rattle.automaton.specs.Sound.{meant}
use Rattle.automaton_writer.specs.Filed.{file_of}
use Rattle.automaton_writer.proofs.Files.{done, front}
use Rattle.automaton_writer.proofs.write.write_all.Given as goal

-- the head and the records so far are written
abbrev pub invariant-loop-number : goal.invariant-loop-number
invariant-loop-number l = record {
  place : 9 + length (done (meant l.automaton) l.number) ≡ l.at;
  long : length l.out ≡ length l.fn.out;
  out : l.out ≡ written l.fn.out 0 ((1 ∷ be32 (length (file_of (meant l.automaton)) - 5) ++ front (meant l.automaton)) ++ done (meant l.automaton) l.number);
}
