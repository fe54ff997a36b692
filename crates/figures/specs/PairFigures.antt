-- Figures about two bytes in one search that were worked out by hand, of the definitions that the calls' contracts speak of. Assumes nothing.
use Rattle.std.specs.Prelude.{◌≡◌, ℕ, true, false, List, [], ◌∷◌, codes, bit_and, Some, Ok}
use Rattle.ternary.specs.declared.entry.Entry.{Entry}
use Rattle.ternary.specs.declared.words.Mark.{Mark}
use Rattle.ternary.specs.Entries.{entry_of, and_again}
use Rattle.pairs.specs.declared.stride.Stride.{Stride}
use Rattle.pairs.specs.declared.stride.Stride.TheVariants.{One, Two}
use Rattle.pairs.specs.declared.pair.PairEntry.{PairEntry}
use Rattle.pairs.specs.Match.{first}
use Rattle.pair_image.specs.Calls.{image_size}
use Rattle.pair_image.specs.Format.{encode}
use Rattle.pair_table.specs.Acceptance.{FirstWrong}
use Rattle.pair_builder.specs.Build.{parts_over}
use Rattle.pair_builder.specs.Unrolled.{Choice, Chosen, pair_table}
use Rattle.pair_walk.specs.Walks as walks
use Rattle.figures.specs.Figures.{ab, state_code, table, seven_at}
use Rattle.figures.specs.Figures as one

-- a two-byte entry: a code, a first byte and a second byte, each with its mask, the successor code, the class, and the stride
abbrev pub pair_of : ℕ → ℕ → ℕ → ℕ → ℕ → ℕ → ℕ → ℕ → Stride → PairEntry
pair_of code mask byte byte_mask second second_mask next class stride =
    record { entry = entry_of code mask byte byte_mask (state_code next) class; second_value = bit_and second second_mask; second_mask = second_mask; stride = stride; second_clear = and_again second second_mask }

-- after an "a", a "b" leads to code 2 with class 7, whatever follows
abbrev pub after_a : PairEntry
after_a = record { entry = one.after_a; second_value = 0; second_mask = 0; stride = One; second_clear = and_again 0 0 }

-- an "a" leads to code 1, whatever follows
abbrev pub on_a : PairEntry
on_a = record { entry = one.on_a; second_value = 0; second_mask = 0; stride = One; second_clear = and_again 0 0 }

-- any byte and then an "a": code 1
abbrev pub then_a : PairEntry
then_a = record { entry = entry_of 0 0 0 0 (state_code 1) 0; second_value = 97; second_mask = 255; stride = Two; second_clear = and_again 97 255 }

-- any byte and then any other: code 0
abbrev pub then_else : PairEntry
then_else = record { entry = one.else; second_value = 0; second_mask = 0; stride = Two; second_clear = and_again 0 0 }

-- the two-byte table of "ab"
abbrev pub pair_table_of_ab : List PairEntry
pair_table_of_ab = after_a ∷ on_a ∷ then_a ∷ then_else ∷ []

-- its image: version, length of the rest, W, N, start, M; the three codes; the four entries
abbrev pub image_of_ab : List ℕ
image_of_ab =
    3 ∷ 0 ∷ 0 ∷ 0 ∷ 61 ∷ 2 ∷ 0 ∷ 3 ∷ 0 ∷ 0 ∷ 0 ∷ 4 ∷
    0 ∷ 0 ∷ 0 ∷ 1 ∷ 0 ∷ 2 ∷
    0 ∷ 1 ∷ 0 ∷ 3 ∷ 98 ∷ 255 ∷ 0 ∷ 0 ∷ 0 ∷ 2 ∷ 7 ∷ 1 ∷
    0 ∷ 0 ∷ 0 ∷ 0 ∷ 97 ∷ 255 ∷ 0 ∷ 0 ∷ 0 ∷ 1 ∷ 0 ∷ 1 ∷
    0 ∷ 0 ∷ 0 ∷ 0 ∷ 0 ∷ 0 ∷ 97 ∷ 255 ∷ 0 ∷ 1 ∷ 0 ∷ 2 ∷
    0 ∷ 0 ∷ 0 ∷ 0 ∷ 0 ∷ 0 ∷ 0 ∷ 0 ∷ 0 ∷ 0 ∷ 0 ∷ 2 ∷ []

-- ---- an automaton whose root goes to a marking state: "b" leads to state 1, of class 7, and all else to state 0

-- its one-byte table: "b" leads to code 1 with class 7, all else to code 0
abbrev pub table_of_b : List Entry
table_of_b = entry_of 0 0 98 255 (state_code 1) 7 ∷ entry_of 0 0 0 0 (state_code 0) 0 ∷ []

-- and its two-byte table, with the closing entry unrolled
abbrev pub pair_table_of_b : List PairEntry
pair_table_of_b = pair_of 0 0 98 255 0 0 1 7 One ∷ pair_of 0 0 0 0 98 255 1 7 Two ∷ pair_of 0 0 0 0 0 0 0 0 Two ∷ []

-- ---- the figures

pub record PairFigures : Type 0 where
  -- over whichever shortest lists the image has 66 bytes, and over some it is this one, with these entries
  pub size : (p : Choice) → Chosen ab p → image_size (parts_over ab p) ≡ 66
  pub image : (p : Choice) × Chosen ab p × (pair_table ab p ≡ pair_table_of_ab) × (encode (parts_over ab p) ≡ image_of_ab)
  -- what four searches find
  pub x_a : first pair_table_of_ab 0 120 97 ≡ Some (state_code 1, 0, Two)
  pub b_a : first pair_table_of_ab 1 98 97 ≡ Some (state_code 2, 7, One)
  pub a_b : first pair_table_of_ab 2 97 98 ≡ Some (state_code 1, 0, One)
  pub x_x : first pair_table_of_ab 0 120 120 ≡ Some (state_code 0, 0, Two)
  -- "xabab" marks places 2 and 4 in two slots, with 4 searches
  pub both_marks : (slot other : Mark) →
      (walks.answer table pair_table_of_ab (state_code 0) (codes "xabab") 2 ≡ Ok (one.answer 5 2 2 false 4))
      × (walks.leaves table pair_table_of_ab (state_code 0) (codes "xabab") (slot ∷ other ∷ []) ≡ seven_at 2 ∷ seven_at 4 ∷ [])
  -- with one slot it takes 4 bytes, marks place 2, and makes 4 searches
  pub one_slot : (slot : Mark) →
      (walks.answer table pair_table_of_ab (state_code 0) (codes "xabab") 1 ≡ Ok (one.answer 4 1 1 true 4))
      × (walks.leaves table pair_table_of_ab (state_code 0) (codes "xabab") (slot ∷ []) ≡ seven_at 2 ∷ [])
  -- "xx" takes one search, "x" one on the one-byte card, and an empty piece none
  pub two_silent : walks.answer table pair_table_of_ab (state_code 0) (codes "xx") 0 ≡ Ok (one.answer 2 0 0 false 1)
  pub one_silent : walks.answer table pair_table_of_ab (state_code 0) (codes "x") 0 ≡ Ok (one.answer 1 0 0 false 1)
  pub empty_piece : walks.answer table pair_table_of_ab (state_code 0) [] 0 ≡ Ok (one.answer 0 0 0 false 0)
  -- "xb" with no slot: the mark of "b" does not fit, and "x" is taken alone, with 2 searches
  pub alone : walks.answer table_of_b pair_table_of_b (state_code 0) (codes "xb") 0 ≡ Ok (one.answer 1 0 0 true 2)
  -- the last two entries swapped: wrong first at state 0, bytes 00h and 61h
  pub swapped : FirstWrong ab state_code (after_a ∷ on_a ∷ then_else ∷ then_a ∷ []) 0 0 97
  -- the first entry removed: wrong first at state 1, bytes 62h and 00h
  pub removed : FirstWrong ab state_code (on_a ∷ then_a ∷ then_else ∷ []) 1 98 0
