-- A table image: the parts that it holds, and their bytes. Assumes nothing.
use Rattle.std.specs.Prelude.{ℕ, ◌+◌, ◌-◌, ◌*◌, cond, List, [], ◌∷◌, ◌++◌, map, length, ◌==◌, bit_and, slice_index}
use Rattle.std.specs.List.{range_with_len, flat_map}
use Rattle.ternary.specs.declared.words.StateNo.{StateNo}
use Rattle.ternary.specs.declared.words.StateCode.{StateCode}
use Rattle.pairs.specs.declared.pair.PairEntry.{PairEntry}
use Rattle.ternary.specs.Entries.{entry_of, and_again}
use Rattle.pairs.specs.declared.stride.Stride.{Stride}
use Rattle.pairs.specs.declared.stride.Stride.TheVariants.{One, Two}
use Rattle.pairs.specs.Strides as strides
use Rattle.fields.specs.Fields.{word, be16, be32}
use Rattle.pair_image.specs.declared.raw.RawPair.{RawPair}

-- what an image holds: the code width, the start state, a code for each state, and the entries
pub record Parts : Type 0 where
  pub width : ℕ
  pub start : StateNo
  pub codes : List StateCode
  pub entries : List PairEntry

-- some parts, named one by one
abbrev pub parts_from : ℕ → StateNo → List StateCode → List PairEntry → Parts
parts_from width start codes entries = record { width = width; start = start; codes = codes; entries = entries }

-- the size of an image of n codes and m entries
abbrev pub size : ℕ → ℕ → ℕ
size n m = 12 + 2 * n + 12 * m

-- the fields of an entry
abbrev pub raw_of : PairEntry → RawPair
raw_of e = record {
  code_value = e.entry.code_value;
  code_mask = e.entry.code_mask;
  byte_value = e.entry.byte_value;
  byte_mask = e.entry.byte_mask;
  second_value = e.second_value;
  second_mask = e.second_mask;
  next = e.entry.next;
  class = e.entry.class;
  stride = strides.bytes e.stride;
}

-- the stride of a number: two bytes for 2, and else one
abbrev pub stride_of : ℕ → Stride
stride_of n = cond (n == 2) Two One

-- the entry with some fields
abbrev pub entry_from : RawPair → PairEntry
entry_from f = record {
  entry = entry_of f.code_value f.code_mask f.byte_value f.byte_mask f.next f.class;
  second_value = bit_and f.second_value f.second_mask;
  second_mask = f.second_mask;
  stride = stride_of f.stride;
  second_clear = and_again f.second_value f.second_mask;
}

-- the two bytes of a code
abbrev pub code_bytes : StateCode → List ℕ
code_bytes c = be16 c.0

-- the twelve bytes of an entry's fields: code value, code mask, byte value, byte mask, second byte value, second byte mask, successor code, class, stride
abbrev pub raw_bytes : RawPair → List ℕ
raw_bytes f = be16 f.code_value ++ (be16 f.code_mask ++ (f.byte_value ∷ f.byte_mask ∷ f.second_value ∷ f.second_mask ∷ be16 f.next.0 ++ (f.class ∷ f.stride ∷ [])))

-- the twelve bytes of an entry
abbrev pub entry_bytes : PairEntry → List ℕ
entry_bytes e = raw_bytes (raw_of e)

-- the twelve bytes before n codes and m entries: version, length of the rest, code width, n, start state, m
abbrev pub header_bytes : ℕ → ℕ → ℕ → ℕ → List ℕ
header_bytes width n start m = 3 ∷ be32 (size n m - 5) ++ (width ∷ be16 n ++ (be16 start ++ be16 m))

-- the format: the bytes of some parts
abbrev pub encode : Parts → List ℕ
encode p =
    header_bytes p.width (length p.codes) p.start.0 (length p.entries)
    ++ (flat_map code_bytes p.codes ++ flat_map entry_bytes p.entries)

-- the code in the two bytes at `at`
abbrev pub code_in : List ℕ → ℕ → StateCode
code_in bs at = record { 0 = word bs at }

-- the code of the state k
abbrev pub code_at : List ℕ → ℕ → StateCode
code_at bs k = code_in bs (12 + 2 * k)

-- the fields in the twelve bytes at `at`
abbrev pub fields_at : List ℕ → ℕ → RawPair
fields_at bs at = record {
  code_value = word bs at;
  code_mask = word bs (at + 2);
  byte_value = slice_index bs (at + 4);
  byte_mask = slice_index bs (at + 5);
  second_value = slice_index bs (at + 6);
  second_mask = slice_index bs (at + 7);
  next = record { 0 = word bs (at + 8) };
  class = slice_index bs (at + 10);
  stride = slice_index bs (at + 11);
}

-- the fields of the entry k after n codes
abbrev pub raw_at : List ℕ → ℕ → ℕ → RawPair
raw_at bs n k = fields_at bs (size n k)

-- the codes that some bytes say
abbrev pub codes_in : List ℕ → List StateCode
codes_in bs = map (code_at bs) (range_with_len 0 (word bs 6))

-- the fields of the entries that some bytes say
abbrev pub raws_in : List ℕ → List RawPair
raws_in bs = map (raw_at bs (word bs 6)) (range_with_len 0 (word bs 10))

-- the parts that some bytes say
abbrev pub decode : List ℕ → Parts
decode bs = record {
  width = slice_index bs 5;
  start = record { 0 = word bs 8 };
  codes = codes_in bs;
  entries = map entry_from (raws_in bs);
}
