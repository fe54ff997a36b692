use Rattle.std.proofs.Common.{◌+◌, ◌-◌, ◌*◌}
use Rattle.prefix.proofs.trees.Subtrees.+emit.Given as goal

-- a half has one bit more, and its words are appended by one call more
abbrev pub decreases-emit : goal.decreases-emit
decreases-emit l = 2 * (8 - l.prefix.bits)

abbrev pub decreases-emit_half : goal.decreases-emit_half
decreases-emit_half l = 2 * (8 - l.half.bits) + 1
