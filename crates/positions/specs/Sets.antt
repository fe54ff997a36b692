-- Sets of positions as bits. Assumes nothing.
use Rattle.std.specs.Prelude.{ℕ, ◌/◌, ◌%◌, Bool, ◌==◌, slice_index}
use Rattle.std.specs.Int.{bit_at}
use Rattle.syntax.specs.Class.{any}
use Rattle.positions.specs.declared.set.Set.{Set}

-- the set has the position p
abbrev pub in_set : Set → ℕ → Bool
in_set s p = bit_at (slice_index s.words (p / 64)) (p % 64) == 1

-- some position below 256 passes the test
unfoldable pub some_place : (ℕ → Bool) → Bool
some_place test = any test 256
