use Rattle.std.proofs.Common.{◌+◌, ◌-◌, ◌*◌}
use Rattle.prefix.proofs.trees.Subtrees.+add.Given as goal

-- a half has one bit more, and is added by one call more
abbrev pub decreases-add : goal.decreases-add
decreases-add l = 2 * (8 - l.prefix.bits)

abbrev pub decreases-add_half : goal.decreases-add_half
decreases-add_half l = 2 * (8 - l.half.bits) + 1
