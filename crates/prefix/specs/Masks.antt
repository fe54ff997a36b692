-- A prefix word as a value and a mask over the bits of a byte. Assumes nothing.
use Rattle.std.specs.Prelude.{ℕ, ◌-◌, ◌*◌, ◌%◌, ◌^◌}
use Rattle.prefix.specs.declared.word.PrefixWord.{PrefixWord}

-- the mask of the first bits of a byte, as many as the word compares
abbrev pub byte_mask : {D : Type 0} → PrefixWord D → ℕ
byte_mask w = 256 - 2 ^ (8 - w.bits)

-- the word's value at these bits, and 0 at the others
abbrev pub byte_value : {D : Type 0} → PrefixWord D → ℕ
byte_value w = w.value * 2 ^ (8 - w.bits) % 256
