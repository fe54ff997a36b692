-- The two-byte table, the image and the walks of the automaton "ab".
use Rattle.std.proofs.Common.{◌≡◌, ℕ, ◌<◌, Bool, true, false, cond, ◌&&◌, eqb, List, [], ◌∷◌, codes, length, Some, Ok, sym, refl, ap, ◌∙◌, subst, inl, inr, arith}
use Rattle.std.proofs.lemmas.Bool.{eq-eqb, ne_eqb, cases_eq}
use Rattle.std.proofs.lemmas.Nat.Bits.{and_high_mask}
use lib.Bits.{bit_and, and_zero_r}
use Rattle.ternary.specs.declared.words.Mark.{Mark}
use Rattle.ternary.specs.declared.words.StateCode.{StateCode}
use Rattle.pairs.specs.declared.stride.Stride.TheVariants.{One, Two}
use Rattle.pairs.specs.declared.pair.PairEntry.{PairEntry}
use Rattle.pairs.specs.Match.{pick, first}
use Rattle.pairs.specs.Carries.{Right, RightStep}
use Rattle.prefix.specs.Listed.{chosen}
use Rattle.forest.specs.Deferment.{shared, loops, trees_of, forest_of}
use Rattle.pair_image.specs.Calls.{image_size}
use Rattle.pair_image.specs.Format.{encode}
use Rattle.pair_table.specs.Acceptance.{FirstWrong}
use Rattle.pair_builder.specs.Build.{parts_over}
use Rattle.pair_builder.specs.Choosing.{choice_of}
use Rattle.pair_builder.specs.Unrolled.{Choice, Chosen, pair_table}
use Rattle.pair_builder.proofs.Closing.{choice_chosen}
use Rattle.pair_builder.proofs.Lengths.{one_size}
use Rattle.pair_walk.specs.Walks as walks
use Rattle.figures.specs.Figures.{ab, state_code, table, seven_at}
use Rattle.figures.specs.Figures as one
use Rattle.figures.specs.PairFigures.{after_a, on_a, then_a, then_else, pair_table_of_ab, image_of_ab, table_of_b, pair_table_of_b}

-- ---- the image

tabled : pair_table ab (choice_of ab) ≡ pair_table_of_ab
unfolding shared trees_of loops forest_of chosen
tabled = refl

encoded : encode (parts_over ab (choice_of ab)) ≡ image_of_ab
unfolding shared trees_of loops forest_of chosen
encoded = refl

sized : image_size (parts_over ab (choice_of ab)) ≡ 66
unfolding shared trees_of loops forest_of chosen
sized = refl

pub image : (p : Choice) × Chosen ab p × (pair_table ab p ≡ pair_table_of_ab) × (encode (parts_over ab p) ≡ image_of_ab)
image = (choice_of ab, choice_chosen ab, tabled, encoded)

pub size : (p : Choice) → Chosen ab p → image_size (parts_over ab p) ≡ 66
size p picked = one_size ab (choice_of ab) p (choice_chosen ab) picked ∙ sized

-- ---- searches and walks

pub x_a : first pair_table_of_ab 0 120 97 ≡ Some (state_code 1, 0, Two)
x_a = refl

pub b_a : first pair_table_of_ab 1 98 97 ≡ Some (state_code 2, 7, One)
b_a = refl

pub a_b : first pair_table_of_ab 2 97 98 ≡ Some (state_code 1, 0, One)
a_b = refl

pub x_x : first pair_table_of_ab 0 120 120 ≡ Some (state_code 0, 0, Two)
x_x = refl

pub both_marks : (slot other : Mark) →
    (walks.answer table pair_table_of_ab (state_code 0) (codes "xabab") 2 ≡ Ok (one.answer 5 2 2 false 4))
    × (walks.leaves table pair_table_of_ab (state_code 0) (codes "xabab") (slot ∷ other ∷ []) ≡ seven_at 2 ∷ seven_at 4 ∷ [])
both_marks slot other = (refl, refl)

pub one_slot : (slot : Mark) →
    (walks.answer table pair_table_of_ab (state_code 0) (codes "xabab") 1 ≡ Ok (one.answer 4 1 1 true 4))
    × (walks.leaves table pair_table_of_ab (state_code 0) (codes "xabab") (slot ∷ []) ≡ seven_at 2 ∷ [])
one_slot slot = (refl, refl)

pub two_silent : walks.answer table pair_table_of_ab (state_code 0) (codes "xx") 0 ≡ Ok (one.answer 2 0 0 false 1)
two_silent = refl

pub one_silent : walks.answer table pair_table_of_ab (state_code 0) (codes "x") 0 ≡ Ok (one.answer 1 0 0 false 1)
one_silent = refl

pub empty_piece : walks.answer table pair_table_of_ab (state_code 0) [] 0 ≡ Ok (one.answer 0 0 0 false 0)
empty_piece = refl

pub alone : walks.answer table_of_b pair_table_of_b (state_code 0) (codes "xb") 0 ≡ Ok (one.answer 1 0 0 true 2)
alone = refl

-- ---- wrong tables

-- a star accepts every number
star : (n : ℕ) → eqb (bit_and n 0) 0 ≡ true
star n = eq-eqb (bit_and n 0) 0 (and_zero_r n)

-- all eight bits of a byte are the byte
whole : (n : ℕ) → n < 256 → bit_and n 255 ≡ n
whole n h = and_high_mask 8 0 (omega arith) n h ∙ omega arith

-- no code is two codes
one_of_two : state_code 0 ≡ state_code 1 → ⊥
one_of_two e = let z : ◌≡◌ {A = ℕ} 0 1 = ap (λ (c : StateCode). c.0) e in omega arith

-- where all bytes but an "a" are passed over by the second of the last two
swapped_below : (y : ℕ) → y < 97 → Right ab state_code (after_a ∷ on_a ∷ then_else ∷ then_a ∷ []) 0 0 y
swapped_below y h =
    subst (λ (b : Bool). RightStep ab state_code 0 0 y (pick b then_else (first (then_a ∷ []) 0 0 y))) (sym (star y))
    (subst (λ (b : Bool). (state_code 0 ≡ state_code (cond b 1 0)) × ◌≡◌ {A = ℕ} 0 (cond (eqb (cond b 1 0) 2) 7 0) × ◌≡◌ {A = ℕ} 0 0) (sym (ne_eqb y 97 (λ e. omega (arith, e)))) (refl, refl, refl))

pub swapped : FirstWrong ab state_code (after_a ∷ on_a ∷ then_else ∷ then_a ∷ []) 0 0 97
swapped = record {
  state = omega arith;
  byte = omega arith;
  second = omega arith;
  wrong = λ right. one_of_two right.0;
  lower_states = λ r less. absurd (omega arith);
  lower_bytes = λ x less. absurd (omega arith);
  lower_seconds = swapped_below;
}

-- without the first entry all is right but a "b" at state 1
module _ (s x y : ℕ) (byte : x < 256) (second : y < 256) (other : (eqb s 1 && eqb x 98) ≡ false) where
  -- by what the tests for an "a" say of both bytes
  by_tests : (p q : Bool) → eqb x 97 ≡ p → eqb y 97 ≡ q → Right ab state_code (on_a ∷ then_a ∷ then_else ∷ []) s x y
  by_tests p q is_p is_q =
      let goes : ab.next s x ≡ cond p 1 0 = (λ i. cond (is_p i) 1 (cond (other i) 2 0)) in
      let on : eqb (bit_and x 255) 97 ≡ p = ap (λ n. eqb n 97) (whole x byte) ∙ is_p in
      let after : eqb (bit_and y 255) 97 ≡ q = ap (λ n. eqb n 97) (whole y second) ∙ is_q in
      let found : first (on_a ∷ then_a ∷ then_else ∷ []) s x y ≡ pick p on_a (pick q then_a (Some (state_code 0, 0, Two))) =
      (λ i. pick ((star s i && on i) && star y i) on_a (pick ((star s i && star x i) && after i) then_a (pick ((star s i && star x i) && star y i) then_else (first [] s x y)))) ∙ shape p q in
      subst (RightStep ab state_code s x y) (sym found) (right p q is_p is_q goes)
    where
      shape : (p q : Bool) → pick ((true && p) && true) on_a (pick ((true && true) && q) then_a (Some (state_code 0, 0, Two))) ≡ pick p on_a (pick q then_a (Some (state_code 0, 0, Two)))
      shape true q = refl
      shape false true = refl
      shape false false = refl

      right : (p q : Bool) → eqb x 97 ≡ p → eqb y 97 ≡ q → ab.next s x ≡ cond p 1 0 → RightStep ab state_code s x y (pick p on_a (pick q then_a (Some (state_code 0, 0, Two))))
      right true q is_p is_q goes = (ap state_code (sym goes), ap (λ t. ab.class t) (sym goes), tt)
      right false true is_p is_q goes =
          let on : ab.next (ab.next s x) y ≡ 1 = ap (λ t. ab.next t y) goes ∙ ap (λ b. cond b 1 0) is_q in
          (ap state_code (sym on), ap (λ t. ab.class t) (sym on), ap (λ t. ab.class t) goes)
      right false false is_p is_q goes =
          let on : ab.next (ab.next s x) y ≡ 0 = ap (λ t. ab.next t y) goes ∙ ap (λ b. cond b 1 0) is_q in
          (ap state_code (sym on), ap (λ t. ab.class t) (sym on), ap (λ t. ab.class t) goes)

  elsewhere : Right ab state_code (on_a ∷ then_a ∷ then_else ∷ []) s x y
  elsewhere = by_tests (eqb x 97) (eqb y 97) refl refl

pub removed : FirstWrong ab state_code (on_a ∷ then_a ∷ then_else ∷ []) 1 98 0
removed = record {
  state = omega arith;
  byte = omega arith;
  second = omega arith;
  wrong = λ right. let z : ◌≡◌ {A = ℕ} 7 0 = right.2 in omega arith;
  lower_states = λ r less x hx y hy. elsewhere r x y hx hy (ap (λ (b : Bool). b && eqb x 98) (ne_eqb r 1 (λ e. omega (arith, e))));
  lower_bytes = λ x less y hy. elsewhere 1 x y (omega arith) hy (ne_eqb x 98 (λ e. omega (arith, e)));
  lower_seconds = λ y less. absurd (omega arith);
}
