-- What a column card means. Assumes nothing.
use Rattle.std.specs.Prelude.{ℕ, ◌+◌, ◌-◌, ◌*◌, ◌/◌, ◌%◌, min, cond, ◌&&◌, List, map, length, ◌==◌, bit_and, slice_index_or, refl}
use Rattle.std.specs.List.{range_with_len}
use Rattle.ternary.specs.declared.entry.Entry.{Entry}
use Rattle.ternary.specs.Entries.{entry_of}
use Rattle.ternary.specs.Match.{Decision}
use Rattle.column.specs.declared.columns.ColumnCard.{ColumnCard}
use Rattle.column.specs.Bitmaps.{first_word, field_value, field_mask}

-- the decision past the last
abbrev pub undecided : Decision
undecided = (record { 0 = 0 }, 0)

-- an entry that matches no code: it compares a seventeenth bit, and no code has one
abbrev pub unmatched : Entry
unmatched = record {
  code_value = 65536;
  code_mask = 65536;
  byte_value = 0;
  byte_mask = 0;
  next = record { 0 = 0 };
  class = 0;
  code_clear = refl;
  byte_clear = refl;
}

-- the entry with these fields if no value has a bit under a star; words that accept neither value of a bit, as no append leaves them, hold no such entry
abbrev pub entry_with : ℕ → ℕ → ℕ → ℕ → Decision → Entry
entry_with code_value code_mask byte_value byte_mask d =
    cond (bit_and code_value code_mask == code_value && bit_and byte_value byte_mask == byte_value)
    (entry_of code_value code_mask byte_value byte_mask d.0 d.1) unmatched

-- the entry i, read back from its 48 bits and its decision
unfoldable pub entry_at : List ℕ → List Decision → ℕ → Entry
entry_at words decisions i =
    entry_with (field_value words (first_word i) (i % 64) 16) (field_mask words (first_word i) (i % 64) 16)
    (field_value words (first_word i + 32) (i % 64) 8) (field_mask words (first_word i + 32) (i % 64) 8) (slice_index_or decisions i undecided)

-- the first n entries
abbrev pub entries_of : List ℕ → List Decision → ℕ → List Entry
entries_of words decisions n = map (entry_at words decisions) (range_with_len 0 n)

-- how many entries fit
abbrev pub room : List ℕ → List Decision → ℕ
room words decisions = min 4096 (min (length decisions) (64 * (length words / 48)))

-- the capacity: how many entries fit the buffers
abbrev pub places : ColumnCard → ℕ
places c = room c.words.now c.decisions.now

-- the free count: the places behind those in use
abbrev pub unused : ColumnCard → ℕ
unused c = places c - c.used

-- the list: the entries in the places in use
abbrev pub listed : ColumnCard → List Entry
listed c = entries_of c.words.now c.decisions.now (min c.used (places c))
