use Rattle.std.proofs.Common.{◌≡◌, ◌++◌, string_bytes}
use Rattle.printed.specs.Lines.{places}
use Rattle.printed.proofs.bits.symbols.Given as goal

-- what is written and the places that are left make up the whole
abbrev pub invariant-loop-place : goal.invariant-loop-place
invariant-loop-place l = string_bytes l.text ++ places l.place l.value l.mask ≡ places l.width l.value l.mask
