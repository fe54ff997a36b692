-- The bucket of a set in the index over the states. Assumes nothing.
use Rattle.std.specs.Prelude.{◌≡◌, ℕ, ◌+◌, ◌*◌, ◌/◌, ◌%◌, ◌^◌, ◌<◌, length, slice_index}
use Rattle.positions.specs.declared.set.Set.{Set}

-- a set is four words of 64 bits
pub record IsFourWords (s : Set) : Type 0 where
  pub four : length s.words ≡ 4
  pub low : (i : ℕ) → i < 4 → slice_index s.words i < 2 ^ 64

-- a sum with a word more, multiplied by an odd number near 2 ^ 64 divided by the golden ratio
unfoldable pub mixed : ℕ → ℕ → ℕ
mixed sum word = (((sum + word) % 2 ^ 64) * 11400714819323198485) % 2 ^ 64

-- the sum of a set's words
abbrev pub sum_of : Set → ℕ
sum_of s =
    mixed (mixed (mixed (mixed 0 (slice_index s.words 0)) (slice_index s.words 1))
    (slice_index s.words 2)) (slice_index s.words 3)

-- the bucket of a set: the first nine bits of the sum
unfoldable pub bucket_of : Set → ℕ
bucket_of s = sum_of s / 2 ^ 55
