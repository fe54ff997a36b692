-- The bits of a number. Assumes nothing.
use Rattle.std.specs.Prelude.{ℕ, ◌/◌, ◌%◌, ◌^◌, Bool, ◌==◌}

-- the binary digit of n at place p, counted from the lowest
unfoldable pub digit : ℕ → ℕ → ℕ
digit n p = n / 2 ^ p % 2

-- whether the bit of n at place p is set
unfoldable pub bit : ℕ → ℕ → Bool
unfolding digit
bit n p = digit n p == 1
