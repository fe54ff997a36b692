-- The rules of a table image: the offset of the first field that breaks one. Assumes nothing.
use Rattle.std.specs.Prelude.{ℕ, ◌+◌, ◌*◌, ◌^◌, Bool, ◌&&◌, List, [], ◌∷◌, map, length, Option, ◌==◌, ◌||◌, ◌-◌, bit_and, nat_le, nat_lt, slice_index}
use Rattle.ternary.specs.declared.words.StateCode.{StateCode}
use Rattle.fields.specs.Fields.{word, long, check, or_else, first_of, each_fault}
use Rattle.pairs.specs.declared.pair.PairEntry.{PairEntry}
use Rattle.pair_image.specs.declared.raw.RawPair.{RawPair}
use Rattle.pair_image.specs.Format.{Parts, size, raw_of, codes_in, raws_in}

-- no bit of a value stands under a star of its mask
abbrev pub clear : ℕ → ℕ → Bool
clear value mask = bit_and value mask == value

-- a stride is 1 or 2
abbrev pub is_stride : ℕ → Bool
is_stride n = (n == 1) || (n == 2)

-- the first fault of version 3, the length of the rest, and a rest of at least so many bytes
abbrev pub pair_frame_fault : ℕ → List ℕ → Option ℕ
pair_frame_fault least bs = first_of (
    check (nat_le (5 + least) (length bs)) (length bs) ∷
    check (slice_index bs 0 == 3) 0 ∷
    check (long bs 1 == length bs - 5) 1 ∷ [])

-- the first fault of a code at `at`
abbrev pub code_fault : ℕ → ℕ → StateCode → Option ℕ
code_fault limit at c = check (nat_lt c.0 limit) at

-- the first fault of an entry's fields at `at`
abbrev pub raw_fault : ℕ → ℕ → RawPair → Option ℕ
raw_fault limit at f = first_of (
    check (nat_lt f.code_value limit && clear f.code_value f.code_mask) at ∷
    check (nat_lt f.code_mask limit) (at + 2) ∷
    check (clear f.byte_value f.byte_mask) (at + 4) ∷
    check (clear f.second_value f.second_mask) (at + 6) ∷
    check (nat_lt f.next.0 limit) (at + 8) ∷
    check (is_stride f.stride) (at + 11) ∷ [])

-- the same of an entry
abbrev pub entry_fault : ℕ → ℕ → PairEntry → Option ℕ
entry_fault limit at e = raw_fault limit at (raw_of e)

-- the item k of items of one size that some bytes hold from `first` on
abbrev pub item_in : {X : Type 0} → ℕ → (List ℕ → ℕ → X) → List ℕ → ℕ → ℕ → X
item_in size said bs first k = said bs (first + size * k)

-- the first fault of the header's fields after its length
abbrev pub header_fault : ℕ → ℕ → ℕ → ℕ → Option ℕ
header_fault width n start m = first_of (
    check (nat_le width 16) 5 ∷
    check (nat_le 1 n && nat_le n 512) 6 ∷
    check (nat_lt start n) 8 ∷
    check (nat_le m 4096) 10 ∷ [])

-- the first fault of the codes and the entries
abbrev pub items_fault : ℕ → List StateCode → List RawPair → Option ℕ
items_fault width codes raws = or_else
    (each_fault (code_fault (2 ^ width)) 2 12 codes)
    (each_fault (raw_fault (2 ^ width)) 12 (12 + 2 * length codes) raws)

-- the first field that would break a rule in the image of some parts
abbrev pub parts_fault : Parts → Option ℕ
parts_fault p = or_else
    (header_fault p.width (length p.codes) p.start.0 (length p.entries))
    (items_fault p.width p.codes (map raw_of p.entries))

-- the first field of some bytes that breaks a rule, if one does: fewer than twelve bytes are refused at their number
abbrev pub fault : List ℕ → Option ℕ
fault bs = first_of (
    pair_frame_fault 7 bs ∷
    header_fault (slice_index bs 5) (word bs 6) (word bs 8) (word bs 10) ∷
    check (length bs == size (word bs 6) (word bs 10)) 12 ∷
    items_fault (slice_index bs 5) (codes_in bs) (raws_in bs) ∷ [])
