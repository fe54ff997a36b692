-- What building answers and leaves. Assumes nothing.
use Rattle.std.specs.Prelude.{◌≡◌, ℕ, ◌+◌, ◌*◌, ◌<◌, ◌≤◌, Bool, true, ◌&&◌, List, [], All, map, length, Ok, Err, filter, Result, ◌==◌, ◌≢◌}
use Rattle.std.specs.List.{range_with_len, AllByRecursion}
use Rattle.ternary.specs.declared.entry.Entry.{Entry}
use Rattle.ternary.specs.declared.refusal.Refusal.{Refusal}
use Rattle.ternary.specs.declared.refusal.Refusal.TheVariants.{OutputTooShort}
use Rattle.ternary.specs.declared.words.StateNo.{StateNo}
use Rattle.ternary.specs.Refusals.{number, values}
use Rattle.fields.specs.Fields.{written}
use Rattle.automaton.specs.Limits.{Handed, Within, dfa}
use Rattle.automaton.specs.Runs.{Dfa}
use Rattle.image.specs.Calls.{image_size}
use Rattle.image.specs.Format.{Parts, decode, encode}
use Rattle.prefix.specs.declared.word.PrefixWord.{PrefixWord}
use Rattle.prefix.specs.Words.{Formed, Shortest}
use Rattle.forest.specs.Forest.{Forest, code, mask}
use Rattle.forest.specs.Deferment.{joined_forest, forest_of}
use Rattle.forest.specs.Heaviest.{parent_pairs, JoinsHeaviest}
use Rattle.builder.specs.Lists.{Lists, row, deferrable, MeetingLists, ShortestLists, entry_for, table_over, code_of, parts_over}

-- the numbers of working memory that a build needs
abbrev pub work_needed : Handed → ℕ
work_needed a = a.states * a.states + 8192

-- the output holds an image over shortest lists, and behind the image what it held before; which shortest lists is free
pub record Built (a : Dfa) (before after : List ℕ) (size : ℕ) : Type 0 where
  pub lists : Lists
  pub shortest : ShortestLists a lists
  pub few : length (table_over a lists) ≤ 4096
  pub sized : size ≡ image_size (parts_over a lists)
  pub room : size ≤ length before
  pub image : after ≡ written before 0 (encode (parts_over a lists))
  -- every choice of shortest lists makes an image of that size
  pub sole : (others : Lists) → ShortestLists a others → image_size (parts_over a others) ≡ size

-- parts over shortest lists, whose table has 4,096 entries or fewer; which shortest lists is free
pub record OverShortest (a : Dfa) (parts : Parts) : Type 0 where
  pub lists : Lists
  pub shortest : ShortestLists a lists
  pub few : length (table_over a lists) ≤ 4096
  pub over : parts ≡ parts_over a lists

-- no lists that meet the byte rule make a table of 4,096 entries or fewer
abbrev pub TooMany : Dfa → Type 0
TooMany a = (lists : Lists) → MeetingLists a lists → 4096 < length (table_over a lists)

-- the image over shortest lists is longer than the output
pub record TooLong (a : Dfa) (room : ℕ) : Type 0 where
  pub lists : Lists
  pub shortest : ShortestLists a lists
  pub few : length (table_over a lists) ≤ 4096
  pub short : room < image_size (parts_over a lists)

-- why building declines, by the number and the values of its refusal: each case only if none before it applies; after the first two the working memory is as it was
pub data Declines (a : Handed) (work after : List ℕ) (room : ℕ) : ℕ → List ℕ → Type 0 where
  beyond : (Within a → ⊥) → after ≡ work → Declines a work after room 1 []
  little : Within a → length work < work_needed a → after ≡ work → Declines a work after room 2 []
  many : Within a → work_needed a ≤ length work → TooMany (dfa a) → Declines a work after room 4 []
  long : Within a → work_needed a ≤ length work → TooLong (dfa a) room → Declines a work after room 3 []

-- what building answers and leaves: the image's size and the image, or a refusal and the output as it was
abbrev pub BuildAnswer : Handed → List ℕ → List ℕ → List ℕ → List ℕ → Result ℕ Refusal → Type 0
BuildAnswer a work work' out out' (Ok size) = Within a × (work_needed a ≤ length work) × Built (dfa a) out out' size
BuildAnswer a work work' out out' (Err why) = (out' ≡ out) × Declines a work work' (length out) (number why) (values why)

-- no other answer is right, whatever the buffers hold after it
abbrev pub SoleAnswer : Handed → List ℕ → List ℕ → Result ℕ Refusal → Type 0
SoleAnswer a work out r = (other : Result ℕ Refusal) (work' out' : List ℕ) → BuildAnswer a work work' out out' other → other ≡ r

-- 37,900 bytes of output always suffice
abbrev pub RoomSuffices : ℕ → Result ℕ Refusal → Type 0
RoomSuffices room r = 37900 ≤ room → r ≢ Err OutputTooShort

-- an entry has the shadow of the state s
abbrev pub has_shadow : Forest → ℕ → Entry → Bool
has_shadow f s e = e.code_value == code f s && e.code_mask == mask f s

-- the entries with the shadow of s are a prefix list of s, and it is a shortest one
pub record ShortestIn (a : Dfa) (entries : List Entry) (s : ℕ) : Type 0 where
  pub list : List (PrefixWord StateNo)
  pub formed : AllByRecursion Formed list
  pub shortest : Shortest list (row a s) (deferrable a s)
  pub behind : filter (has_shadow (forest_of a) s) entries ≡ map (entry_for a s) list

-- in an image the entries with each state's shadow are a shortest prefix list of the state
abbrev pub ShortestImage : Dfa → List ℕ → Type 0
ShortestImage a bytes = (s : ℕ) → s < a.states → ShortestIn a (decode bytes).entries s

-- an entry has the shadow of some state of the automaton's forest
abbrev pub HasSomeShadow : Dfa → Entry → Type 0
HasSomeShadow a e = (s : ℕ) × (s < a.states) × (has_shadow (forest_of a) s e ≡ true)

-- width, codes and shadows are those of the automaton's forest, which joins a heaviest choice of pairs
pub record OverHeaviest (a : Dfa) (parts : Parts) : Type 0 where
  pub wide : parts.width ≡ (forest_of a).width
  pub codes : parts.codes ≡ map (code_of a) (range_with_len 0 a.states)
  pub shadows : All (HasSomeShadow a) parts.entries
  pub joins : JoinsHeaviest a (parent_pairs (forest_of a).parent a.states)

-- where the joined forest's codes have 16 bits or less, an image is made over a heaviest choice
abbrev pub HeaviestImage : Dfa → Parts → Type 0
HeaviestImage a parts = (joined_forest a).width ≤ 16 → OverHeaviest a parts
