use Rattle.std.proofs.Common.{◌≡◌, ℕ, ◌<◌}
use Rattle.std.specs.List.{slice_get}
use Rattle.image.specs.Calls.{parts_of}
use Rattle.pair_image.specs.Calls.{parts_of as pair_parts_of}
use Rattle.pair_scanner.proofs.lent.same_codes.Given as goal

-- the codes so far are the same
abbrev pub invariant-loop-number : goal.invariant-loop-number
invariant-loop-number l = (s : ℕ) → s < l.number → slice_get (pair_parts_of l.two).codes s ≡ slice_get (parts_of l.one).codes s
