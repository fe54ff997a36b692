-- Strides as numbers. Assumes nothing.
use Rattle.std.specs.Prelude.{ℕ}
use Rattle.pairs.specs.declared.stride.Stride.{Stride}
use Rattle.pairs.specs.declared.stride.Stride.TheVariants.{One, Two}

-- the bytes that a stride takes
abbrev pub bytes : Stride → ℕ
bytes One = 1
bytes Two = 2
