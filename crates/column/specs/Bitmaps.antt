-- The bitmaps of 64 entries: which bit values each entry accepts. Assumes nothing.
-- A field is a group of key bits (the code's, the byte's). It has two words for each bit, the one for the value 0 and the one
-- for the value 1, from the word `base` on; an entry has one bit in each, at its `place`.
use Rattle.std.specs.Prelude.{◌≡◌, ℕ, zero, suc, ◌+◌, ◌*◌, ◌/◌, ◌%◌, ◌^◌, ◌<◌, ◌≤◌, Bool, true, false, cond, not, ◌&&◌, List, ◌==◌, ◌≢◌, slice_index}
use Rattle.ternary.specs.Bits.{digit, bit}

-- whether the entry at a place accepts the value v as bit k of a field
unfoldable pub accepts : List ℕ → ℕ → ℕ → ℕ → ℕ → Bool
accepts words base place k v = bit (slice_index words (base + 2 * k + v)) place

-- whether it accepts the lowest w bits of a number
abbrev pub agrees : List ℕ → ℕ → ℕ → ℕ → ℕ → Bool
agrees words base place n zero = true
agrees words base place n (suc w) = agrees words base place n w && accepts words base place w (digit n w)

-- the first word of the 48 that hold the entry i: 32 of the code, then 16 of the byte
abbrev pub first_word : ℕ → ℕ
first_word i = 48 * (i / 64)

-- whether the entry i accepts each bit of a code and of a byte
abbrev pub hit : List ℕ → ℕ → ℕ → ℕ → Bool
hit words code byte i = agrees words (first_word i) (i % 64) code 16 && agrees words (first_word i + 32) (i % 64) byte 8

-- whether two bits are equal
abbrev pub same : Bool → Bool → Bool
same true b = b
same false b = not b

-- the number whose lowest w bits are given, and that has no others
abbrev pub of_bits : (ℕ → Bool) → ℕ → ℕ
of_bits f zero = 0
of_bits f (suc w) = cond (f w) 1 0 * 2 ^ w + of_bits f w

-- the value that an entry compares a field with: a bit is 0 where 0 is accepted
abbrev pub field_value : List ℕ → ℕ → ℕ → ℕ → ℕ
field_value words base place w = of_bits (λ k. not (accepts words base place k 0)) w

-- the mask under which it compares: a bit is compared where 0 and 1 are not treated alike
abbrev pub field_mask : List ℕ → ℕ → ℕ → ℕ → ℕ
field_mask words base place w = of_bits (λ k. not (same (accepts words base place k 0) (accepts words base place k 1))) w

-- one bit of one word was written
abbrev pub Put : List ℕ → List ℕ → ℕ → ℕ → Bool → Type 0
Put before after index place on =
    (q p : ℕ) → p < 64 → bit (slice_index after q) p ≡ cond (q == index && p == place) on (bit (slice_index before q) p)

-- nothing but the bits at `place` of a field's words has changed
abbrev pub Kept : List ℕ → List ℕ → ℕ → ℕ → ℕ → Type 0
Kept before after base width place =
    (q p : ℕ) → p < 64 → (base ≤ q → q < base + 2 * width → p ≢ place) → bit (slice_index after q) p ≡ bit (slice_index before q) p

-- the bits at `place` of a field's words say what a value and a mask accept: 0 where the value's bit is 0, and 1 where it is the mask's bit
abbrev pub Marked : List ℕ → ℕ → ℕ → ℕ → ℕ → ℕ → Type 0
Marked words base width place value mask =
    (k : ℕ) → k < width → (accepts words base place k 0 ≡ not (bit value k)) × (accepts words base place k 1 ≡ same (bit value k) (bit mask k))
