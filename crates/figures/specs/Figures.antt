-- Figures about the rules that were worked out by hand, of the definitions that the calls' contracts speak of. Assumes nothing.
use Rattle.std.specs.Prelude.{◌≡◌, ℕ, ◌≤◌, cond, ◌==◌, ◌&&◌, Bool, true, false, List, [], ◌∷◌, codes, length, drop, Some, Ok}
use Rattle.ternary.specs.declared.entry.Entry.{Entry}
use Rattle.ternary.specs.declared.words.Mark.{Mark}
use Rattle.ternary.specs.declared.words.Progress.{Progress}
use Rattle.ternary.specs.declared.words.StateCode.{StateCode}
use Rattle.ternary.specs.Entries.{entry_of}
use Rattle.ternary.specs.Match.{first}
use Rattle.automaton.specs.Runs.{Dfa}
use Rattle.image.specs.Calls.{image_size}
use Rattle.forest.specs.Deferment.{shared, forest_of}
use Rattle.forest.specs.Forest.{code}
use Rattle.builder.specs.Lists.{Lists, ShortestLists, parts_over}
use Rattle.card.specs.Cards.{Added}
use Rattle.card.specs.Tandem.{free_of}
use Rattle.scanner.specs.Walks.{Outcome}

-- the automaton of three states that marks each "ab" with class 7: "a" leads to state 1, from there "b" to state 2, and all else to state 0
abbrev pub ab : Dfa
ab = record {
  states = 3;
  start = 0;
  next = λ s b. cond (b == 97) 1 (cond (s == 1 && b == 98) 2 0);
  class = λ s. cond (s == 2) 7 0;
}

-- a code
abbrev pub state_code : ℕ → StateCode
state_code n = record { 0 = n }

-- an entry of its table: after an "a", a "b" leads to code 2 with class 7
abbrev pub after_a : Entry
after_a = entry_of 1 3 98 255 (state_code 2) 7

-- an "a" leads to code 1
abbrev pub on_a : Entry
on_a = entry_of 0 0 97 255 (state_code 1) 0

-- all else leads to code 0
abbrev pub else : Entry
else = entry_of 0 0 0 0 (state_code 0) 0

-- its table
abbrev pub table : List Entry
table = after_a ∷ on_a ∷ else ∷ []

-- what a walk answers: the bytes taken, the marks, the code reached, whether marks stopped it, the searches
abbrev pub answer : ℕ → ℕ → ℕ → Bool → ℕ → Progress
answer taken marks code full searches = record { taken = taken; marks = marks; code = state_code code; marks_full = full; searches = searches }

-- a mark of class 7
abbrev pub seven_at : ℕ → Mark
seven_at place = record { place = place; class = 7 }

-- the worked figures
pub record Figures : Type 0 where
  -- the empty piece takes 0 with 0 searches, over any table, from any code, and leaves the buffer
  pub empty_piece : (es : List Entry) (from : ℕ) (buffer : List Mark) → Outcome es (state_code from) [] buffer buffer (Ok (answer 0 0 from false 0))
  -- states 0 and 1 share 255 bytes, and states 0 and 2 all 256
  pub share_01 : shared ab 0 1 ≡ 255
  pub share_02 : shared ab 0 2 ≡ 256
  -- the codes are 0, 1 and 2, of 2 bits
  pub code_0 : code (forest_of ab) 0 ≡ 0
  pub code_1 : code (forest_of ab) 1 ≡ 1
  pub code_2 : code (forest_of ab) 2 ≡ 2
  pub width : (forest_of ab).width ≡ 2
  -- the image has 45 bytes, over whichever shortest lists
  pub size : (lists : Lists) → ShortestLists ab lists → image_size (parts_over ab lists) ≡ 45
  -- code 2 and byte 61h find code 1 without a mark; code 1 and byte 62h find code 2 and class 7
  pub a_after_ab : first table 2 97 ≡ Some (state_code 1, 0)
  pub b_after_a : first table 1 98 ≡ Some (state_code 2, 7)
  -- "xabab" marks places 2 and 4, with 5 searches
  pub both_marks : (buffer : List Mark) → 2 ≤ length buffer → Outcome table (state_code 0) (codes "xabab") buffer (seven_at 2 ∷ seven_at 4 ∷ drop 2 buffer) (Ok (answer 5 2 2 false 5))
  -- with one slot it takes 4 bytes, marks place 2, and makes 5 searches
  pub one_slot : (slot : Mark) → Outcome table (state_code 0) (codes "xabab") (slot ∷ []) (seven_at 2 ∷ []) (Ok (answer 4 1 1 true 5))
  -- an empty tandem of capacities 1 and 2 that takes the three entries is full then, and finds the same for code 1 and byte 62h
  pub tandem : (one two three : List Entry) (free_1 free_2 free_3 : ℕ) →
      Added after_a [] (free_of 1 2 []) one free_1 → Added on_a one free_1 two free_2 → Added else two free_2 three free_3 →
      (first three 1 98 ≡ first table 1 98) × (free_3 ≡ 0)
