-- The forest, the image and the walks of the automaton "ab".
use Rattle.std.proofs.Common.{◌≡◌, ℕ, ◌≤◌, List, [], ◌∷◌, ◌++◌, length, drop, codes, Some, Ok, refl, ap, ◌∙◌, arith, subst, inl, inr, Option, None, false, true}
use Rattle.std.proofs.lemmas.Bool.{cases_lt}
use Rattle.ternary.specs.declared.entry.Entry.{Entry}
use Rattle.ternary.specs.declared.words.Mark.{Mark}
use Rattle.ternary.specs.declared.words.StateCode.{StateCode}
use Rattle.ternary.specs.Marks.{Marked}
use Rattle.ternary.specs.Match.{first}
use Rattle.image.specs.Calls.{image_size}
use Rattle.prefix.specs.Listed.{chosen}
use Rattle.forest.specs.Deferment.{shared, loops, trees_of, forest_of}
use Rattle.forest.specs.Forest.{code}
use Rattle.builder.specs.Gathering.{lists_of}
use Rattle.builder.specs.Lists.{Lists, ShortestLists, parts_over}
use Rattle.builder.proofs.Canonical.{lists_shortest, one_size}
use Rattle.card.specs.Cards.{Added}
use Rattle.card.specs.Tandem.{free_of}
use Rattle.scanner.specs.Traces.{Traced}
use Rattle.scanner.specs.Walks.{CanTake, Outcome}
use Rattle.figures.specs.Figures.{ab, after_a, on_a, else, answer, seven_at, state_code, table}

pub share_01 : shared ab 0 1 ≡ 255
unfolding shared
share_01 = refl

pub share_02 : shared ab 0 2 ≡ 256
unfolding shared
share_02 = refl

pub width : (forest_of ab).width ≡ 2
unfolding shared trees_of loops forest_of
width = refl

pub code_0 : code (forest_of ab) 0 ≡ 0
unfolding shared trees_of loops forest_of
code_0 = refl

pub code_1 : code (forest_of ab) 1 ≡ 1
unfolding shared trees_of loops forest_of
code_1 = refl

pub code_2 : code (forest_of ab) 2 ≡ 2
unfolding shared trees_of loops forest_of
code_2 = refl

sized : image_size (parts_over ab (lists_of ab)) ≡ 45
unfolding shared trees_of loops forest_of chosen
sized = refl

pub size : (lists : Lists) → ShortestLists ab lists → image_size (parts_over ab lists) ≡ 45
size lists short = one_size ab (lists_of ab) lists (lists_shortest ab) short ∙ sized

pub a_after_ab : first table 2 97 ≡ Some (state_code 1, 0)
a_after_ab = refl

pub b_after_a : first table 1 98 ≡ Some (state_code 2, 7)
b_after_a = refl

some_none : {X : Type 0} (x : X) → ◌≡◌ {A = Option X} (Some x) None → ⊥
some_none x e = let z : ◌≡◌ {A = ℕ} 0 1 = cc in omega arith

pub empty_piece : (es : List Entry) (from : ℕ) (buffer : List Mark) → Outcome es (state_code from) [] buffer buffer (Ok (answer 0 0 from false 0))
empty_piece es from buffer = record {
  short = omega arith;
  tells = record {
    ms = [];
    takes = record { can = record { within = omega arith; traced = refl; fits = omega arith }; most = λ m c ks can. can.within };
    count = refl;
    written = refl;
    searched = refl;
  };
  entry = λ lacks. omega (arith, lacks.0);
  full = refl;
}

pub both_marks : (buffer : List Mark) → 2 ≤ length buffer → Outcome table (state_code 0) (codes "xabab") buffer (seven_at 2 ∷ seven_at 4 ∷ drop 2 buffer) (Ok (answer 5 2 2 false 5))
both_marks buffer room = record {
  short = omega arith;
  tells = record {
    ms = (2, 7) ∷ (4, 7) ∷ [];
    takes = record { can = record { within = omega arith; traced = refl; fits = room }; most = λ m c ks can. can.within };
    count = refl;
    written = refl;
    searched = refl;
  };
  entry = λ lacks. omega (arith, lacks.0);
  full = refl;
}

abbrev marks_of : Option Traced → ℕ
marks_of None = 0
marks_of (Some t) = length t.1

-- all five bytes give two marks
five : (slots : ℕ) (c : StateCode) (ks : List Marked) → CanTake table (state_code 0) (codes "xabab") slots 5 c ks → 2 ≤ slots
five slots c ks can =
    let marks : 2 ≡ length ks = ap marks_of can.traced in
    omega (arith, can.fits, marks)

pub one_slot : (slot : Mark) → Outcome table (state_code 0) (codes "xabab") (slot ∷ []) (seven_at 2 ∷ []) (Ok (answer 4 1 1 true 5))
one_slot slot = record {
  short = omega arith;
  tells = record {
    ms = (2, 7) ∷ [];
    takes = record {
      can = record { within = omega arith; traced = refl; fits = omega arith };
      most = λ m c ks can. elim (cases_lt m 5) [
        | inl few ↦ omega (arith, few)
        | inr all ↦
            let is : m ≡ 5 = omega (arith, all, can.within) in
            let none : 2 ≤ 1 = five 1 c ks (subst (λ (k : ℕ). CanTake table (state_code 0) (codes "xabab") 1 k c ks) is can) in
            omega (arith, none)
      ];
    };
    count = refl;
    written = refl;
    searched = refl;
  };
  entry = λ lacks. some_none _ lacks.1;
  full = refl;
}

pub tandem : (one two three : List Entry) (free_1 free_2 free_3 : ℕ) →
    Added after_a [] (free_of 1 2 []) one free_1 → Added on_a one free_1 two free_2 → Added else two free_2 three free_3 →
    (first three 1 98 ≡ first table 1 98) × (free_3 ≡ 0)
tandem one two three free_1 free_2 free_3 a b c =
    let all : three ≡ table = c.last ∙ ap (λ (es : List Entry). es ++ else ∷ []) (b.last ∙ ap (λ (es : List Entry). es ++ on_a ∷ []) a.last) in
    (ap (λ (es : List Entry). first es 1 98) all, omega (arith, a.taken, b.taken, c.taken))
