-- A table image: the parts that it holds, and their bytes. Assumes nothing.
use Rattle.std.specs.Prelude.{ℕ, ◌+◌, ◌-◌, ◌*◌, List, [], ◌∷◌, ◌++◌, map, length, slice_index}
use Rattle.std.specs.List.{range_with_len, flat_map}
use Rattle.ternary.specs.declared.words.StateNo.{StateNo}
use Rattle.ternary.specs.declared.words.StateCode.{StateCode}
use Rattle.ternary.specs.declared.entry.Entry.{Entry}
use Rattle.ternary.specs.Entries.{entry_of}
use Rattle.fields.specs.Fields.{word, be16, be32}
use Rattle.image.specs.declared.raw.RawEntry.{RawEntry}

-- what an image holds: the code width, the start state, a code for each state, and the entries
pub record Parts : Type 0 where
  pub width : ℕ
  pub start : StateNo
  pub codes : List StateCode
  pub entries : List Entry

-- some parts, named one by one
abbrev pub parts_from : ℕ → StateNo → List StateCode → List Entry → Parts
parts_from width start codes entries = record { width = width; start = start; codes = codes; entries = entries }

-- the size of an image of n codes and m entries
abbrev pub size : ℕ → ℕ → ℕ
size n m = 12 + 2 * n + 9 * m

-- the fields of an entry
abbrev pub raw_of : Entry → RawEntry
raw_of e = record {
  code_value = e.code_value;
  code_mask = e.code_mask;
  byte_value = e.byte_value;
  byte_mask = e.byte_mask;
  next = e.next;
  class = e.class;
}

-- the entry with some fields
abbrev pub entry_from : RawEntry → Entry
entry_from f = entry_of f.code_value f.code_mask f.byte_value f.byte_mask f.next f.class

-- the two bytes of a code
abbrev pub code_bytes : StateCode → List ℕ
code_bytes c = be16 c.0

-- the nine bytes of an entry's fields: code value, code mask, byte value, byte mask, successor code, class
abbrev pub raw_bytes : RawEntry → List ℕ
raw_bytes f = be16 f.code_value ++ (be16 f.code_mask ++ (f.byte_value ∷ f.byte_mask ∷ be16 f.next.0 ++ (f.class ∷ [])))

-- the nine bytes of an entry
abbrev pub entry_bytes : Entry → List ℕ
entry_bytes e = raw_bytes (raw_of e)

-- the twelve bytes before n codes and m entries: version, length of the rest, code width, n, start state, m
abbrev pub header_bytes : ℕ → ℕ → ℕ → ℕ → List ℕ
header_bytes width n start m = 1 ∷ be32 (size n m - 5) ++ (width ∷ be16 n ++ (be16 start ++ be16 m))

-- the format: the bytes of some parts
abbrev pub encode : Parts → List ℕ
encode p =
    header_bytes p.width (length p.codes) p.start.0 (length p.entries)
    ++ (flat_map code_bytes p.codes ++ flat_map entry_bytes p.entries)

-- the code in the two bytes at `at`
abbrev pub code_in : List ℕ → ℕ → StateCode
code_in bs at = record { 0 = word bs at }

-- the code of the state k
abbrev pub code_at : List ℕ → ℕ → StateCode
code_at bs k = code_in bs (12 + 2 * k)

-- the fields in the nine bytes at `at`
abbrev pub fields_at : List ℕ → ℕ → RawEntry
fields_at bs at = record {
  code_value = word bs at;
  code_mask = word bs (at + 2);
  byte_value = slice_index bs (at + 4);
  byte_mask = slice_index bs (at + 5);
  next = record { 0 = word bs (at + 6) };
  class = slice_index bs (at + 8);
}

-- the fields of the entry k after n codes
abbrev pub raw_at : List ℕ → ℕ → ℕ → RawEntry
raw_at bs n k = fields_at bs (size n k)

-- the codes that some bytes say
abbrev pub codes_in : List ℕ → List StateCode
codes_in bs = map (code_at bs) (range_with_len 0 (word bs 6))

-- the fields of the entries that some bytes say
abbrev pub raws_in : List ℕ → List RawEntry
raws_in bs = map (raw_at bs (word bs 6)) (range_with_len 0 (word bs 10))

-- the parts that some bytes say
abbrev pub decode : List ℕ → Parts
decode bs = record {
  width = slice_index bs 5;
  start = record { 0 = word bs 8 };
  codes = codes_in bs;
  entries = map entry_from (raws_in bs);
}
