-- What building a two-byte table image answers and leaves. Assumes nothing.
use Rattle.std.specs.Prelude.{◌≡◌, ℕ, ◌+◌, ◌*◌, ◌<◌, ◌≤◌, Bool, true, false, List, [], map, length, Ok, Err, filter, Result, ◌≢◌}
use Rattle.std.specs.List.{range_with_len, AllByRecursion}
use Rattle.ternary.specs.declared.refusal.Refusal.{Refusal}
use Rattle.ternary.specs.declared.refusal.Refusal.TheVariants.{OutputTooShort}
use Rattle.ternary.specs.declared.words.StateNo.{StateNo}
use Rattle.ternary.specs.Refusals.{number, values}
use Rattle.fields.specs.Fields.{written}
use Rattle.automaton.specs.Limits.{Handed, Within, dfa}
use Rattle.automaton.specs.Runs.{Dfa}
use Rattle.prefix.specs.declared.word.PrefixWord.{PrefixWord}
use Rattle.prefix.specs.States.{state_no}
use Rattle.prefix.specs.Words.{Formed, Shortest}
use Rattle.forest.specs.Forest.{Forest}
use Rattle.forest.specs.Deferment.{forest_of}
use Rattle.builder.specs.Build.{work_needed}
use Rattle.builder.specs.Build as one
use Rattle.builder.specs.Lists.{row, deferrable, code_of}
use Rattle.pairs.specs.declared.pair.PairEntry.{PairEntry}
use Rattle.pair_image.specs.Calls.{image_size}
use Rattle.pair_image.specs.Format.{Parts, parts_from, decode, encode}
use Rattle.pair_builder.specs.Unrolled.{Choice, Chosen, Closes, IsQuietRoot, block_of, pair_table}

-- what the image of a choice holds: the width, the start state, the codes in state order and the entries
abbrev pub parts_over : Dfa → Choice → Parts
parts_over a p = parts_from (forest_of a).width (state_no a.start) (map (code_of a) (range_with_len 0 a.states)) (pair_table a p)

-- the output holds an image over such lists, and behind the image what it held before; which shortest lists is free
pub record Built (a : Dfa) (before after : List ℕ) (size : ℕ) : Type 0 where
  pub choice : Choice
  pub chosen : Chosen a choice
  pub few : length (pair_table a choice) ≤ 4096
  pub sized : size ≡ image_size (parts_over a choice)
  pub room : size ≤ length before
  pub image : after ≡ written before 0 (encode (parts_over a choice))
  -- every choice makes an image of that size
  pub sole : (others : Choice) → Chosen a others → image_size (parts_over a others) ≡ size

-- parts over such lists, whose table has 4,096 entries or fewer
pub record OverChosen (a : Dfa) (parts : Parts) : Type 0 where
  pub choice : Choice
  pub chosen : Chosen a choice
  pub few : length (pair_table a choice) ≤ 4096
  pub over : parts ≡ parts_over a choice

-- every choice makes a table of more than 4,096 entries
abbrev pub TooMany : Dfa → Type 0
TooMany a = (p : Choice) → Chosen a p → 4096 < length (pair_table a p)

-- the image is longer than the output
pub record TooLong (a : Dfa) (room : ℕ) : Type 0 where
  pub choice : Choice
  pub chosen : Chosen a choice
  pub few : length (pair_table a choice) ≤ 4096
  pub short : room < image_size (parts_over a choice)

-- why building declines, by the number and the values of its refusal: each case only if none before it applies; after the first two the working memory is as it was
pub data Declines (a : Handed) (work after : List ℕ) (room : ℕ) : ℕ → List ℕ → Type 0 where
  beyond : (Within a → ⊥) → after ≡ work → Declines a work after room 1 []
  little : Within a → length work < work_needed a → after ≡ work → Declines a work after room 2 []
  many : Within a → work_needed a ≤ length work → TooMany (dfa a) → Declines a work after room 4 []
  long : Within a → work_needed a ≤ length work → TooLong (dfa a) room → Declines a work after room 3 []

-- what building answers and leaves: the image's size and the image, or a refusal and the output as it was
abbrev pub BuildAnswer : Handed → List ℕ → List ℕ → List ℕ → List ℕ → Result ℕ Refusal → Type 0
BuildAnswer a work work' out out' (Ok size) = Within a × (work_needed a ≤ length work) × Built (dfa a) out out' size
BuildAnswer a work work' out out' (Err why) = (out' ≡ out) × Declines a work work' (length out) (number why) (values why)

-- no other answer is right, whatever the buffers hold after it
abbrev pub SoleAnswer : Handed → List ℕ → List ℕ → Result ℕ Refusal → Type 0
SoleAnswer a work out r = (other : Result ℕ Refusal) (work' out' : List ℕ) → BuildAnswer a work work' out out' other → other ≡ r

-- 50,188 bytes of output always suffice
abbrev pub RoomSuffices : ℕ → Result ℕ Refusal → Type 0
RoomSuffices room r = 50188 ≤ room → r ≢ Err OutputTooShort

-- an entry has the shadow of the state s
abbrev pub has_shadow : Forest → ℕ → PairEntry → Bool
has_shadow f s e = one.has_shadow f s e.entry

-- the entries with the shadow of s are those of a prefix list of s, which is a shortest one before its closing entry is unrolled; that is so just where s is a root of class 0 with a shortest list that closes with a default word to s
pub record ShortestIn (a : Dfa) (entries : List PairEntry) (s : ℕ) : Type 0 where
  pub list : List (PrefixWord StateNo)
  pub opened : Bool
  pub formed : AllByRecursion Formed list
  pub shortest : Shortest list (row a s) (deferrable a s)
  pub unrolls : opened ≡ true → IsQuietRoot a s × Closes s list
  pub keeps : opened ≡ false → IsQuietRoot a s → (words : List (PrefixWord StateNo)) → Shortest words (row a s) (deferrable a s) → Closes s words → ⊥
  pub behind : filter (has_shadow (forest_of a) s) entries ≡ block_of a s opened list

-- in an image the entries with each state's shadow are those of a shortest prefix list of the state
abbrev pub ShortestImage : Dfa → List ℕ → Type 0
ShortestImage a bytes = (s : ℕ) → s < a.states → ShortestIn a (decode bytes).entries s
