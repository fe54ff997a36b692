-- A whole table as it is printed, and the table of an automaton file. Assumes nothing.
use Rattle.std.specs.Prelude.{◌≡◌, ℕ, List, ◌++◌, length, Ok, Err, Result, MatchResult}
use Rattle.std.specs.List.{flat_map}
use Rattle.ternary.specs.declared.entry.Entry.{Entry}
use Rattle.ternary.specs.declared.refusal.Refusal.{Refusal}
use Rattle.ternary.specs.declared.refusal.Refusal.TheVariants.{TooManyEntries}
use Rattle.ternary.specs.Refusals.{refusal_text}
use Rattle.automaton.specs.declared.words.Header.{Header}
use Rattle.automaton.specs.Limits.{dfa}
use Rattle.automaton.specs.Runs.{Dfa}
use Rattle.image.specs.declared.reader.Image.{Image}
use Rattle.image.specs.Calls.{parts_of}
use Rattle.image.specs.Format.{Parts}
use Rattle.builder.specs.Build.{OverShortest, TooMany}
use Rattle.printed.specs.Lines.{automaton_in, ended, entry_text, table_text}

-- the line of an entry, with the line feed that ends it
abbrev pub entry_row : ℕ → Entry → List ℕ
entry_row w e = ended (entry_text w e)

-- the table of an image: the head line, and a line for each entry
abbrev pub image_text : Parts → List ℕ
image_text p = ended (table_text (length p.entries) p.width) ++ flat_map (entry_row p.width) p.entries

-- what is printed for an automaton: a table over shortest lists, or, where no lists make a table of 4,096 entries or fewer, that refusal
pub data TableText (a : Dfa) (text : List ℕ) : Type 0 where
  table : (p : Parts) → OverShortest a p → text ≡ image_text p → TableText a text
  many : TooMany a → text ≡ ended (refusal_text TooManyEntries) → TableText a text

-- what is printed for a file that reads so: the table of its automaton, or the refusal of reading
abbrev pub FileTable : List ℕ → Result Header Refusal → List ℕ → Type 0
FileTable file (Ok h) text = TableText (dfa (automaton_in file)) text
FileTable file (Err e) text = text ≡ ended (refusal_text e)

-- building a file that reads so answers an image over shortest lists, or that there are too many entries; or the refusal of reading
abbrev pub FileImage : List ℕ → Result Header Refusal → Result Image Refusal → Type 0
FileImage file (Ok h) r = MatchResult r (λ image. OverShortest (dfa (automaton_in file)) (parts_of image)) (λ e. (e ≡ TooManyEntries) × TooMany (dfa (automaton_in file)))
FileImage file (Err e) r = r ≡ Err e
