-- Every choice makes a table of the same length. Assumes nothing.
use Rattle.std.proofs.Common.{◌≡◌, ℕ, zero, suc, ◌+◌, ◌-◌, ◌<◌, ◌≤◌, Bool, true, false, cond, eqb, List, [], ◌∷◌, ◌++◌, map, length, sym, refl, ap, ◌∙◌, subst, arith, length-append}
use Rattle.std.specs.List.{range_with_len}
use Rattle.std.proofs.lemmas.List.{length-map}
use Rattle.automaton.specs.Runs.{Dfa}
use Rattle.forest.specs.Deferment.{forest_of}
use Rattle.forest.specs.Table.{height}
use Rattle.forest.proofs.Deferred.{forest_stands}
use Rattle.builder.specs.Lists.{entry_for, code_of}
use Rattle.pairs.specs.declared.pair.PairEntry.{PairEntry}
use Rattle.pair_image.specs.Calls.{image_size}
use Rattle.pair_image.specs.Format.{size}
use Rattle.pair_builder.specs.Unrolled.{single, double, unrolled, Choice, Chosen, closing_word, own, all_but_last, pair_block, pair_level, pair_levels, pair_table}
use Rattle.pair_builder.specs.Build.{parts_over}

-- as many entries as a list of so many words makes
abbrev made : Bool → ℕ → ℕ
made opened m = cond opened (m - 1 + m) m

but_length : {X : Type 0} (xs : List X) → length (all_but_last xs) ≡ length xs - 1
but_length [] = refl
but_length (x ∷ []) = refl
but_length (x ∷ y ∷ xs) = let e = but_length (y ∷ xs) in omega arith

block_length : (a : Dfa) (p : Choice) (s : ℕ) → length (pair_block a p s) ≡ made (p.opened s) (length (p.lists s))
block_length a p s = go (p.opened s)
  where
    es : ℕ
    es = length (own a p s)

    words : length (own a p s) ≡ length (p.lists s)
    words = length-map (p.lists s) (entry_for a s)

    go : (b : Bool) → length (cond b (map single (all_but_last (own a p s)) ++ unrolled (entry_for a s (closing_word s)) (own a p s)) (map single (own a p s))) ≡ made b (length (p.lists s))
    go true =
        let last = entry_for a s (closing_word s) in
        omega (arith, words, but_length (own a p s), length-append (map single (all_but_last (own a p s))) (unrolled last (own a p s)), length-map (all_but_last (own a p s)) single, length-map (own a p s) (double last))
    go false = omega (arith, words, length-map (own a p s) single)

module _ (a : Dfa) (p q : Choice) (x : Chosen a p) (y : Chosen a q) where
  -- the same roots are unrolled
  same_opened : (s : ℕ) → s < a.states → p.opened s ≡ q.opened s
  same_opened s h = go (p.opened s) refl (q.opened s) refl
    where
      go : (b : Bool) → p.opened s ≡ b → (c : Bool) → q.opened s ≡ c → b ≡ c
      go true e true f = refl
      go true e false f = let o = x.unrolls s h e in absurd (y.keeps s h f o.0 (p.lists s) (x.shortest s h).1 o.1)
      go false e true f = let o = y.unrolls s h f in absurd (x.keeps s h e o.0 (q.lists s) (y.shortest s h).1 o.1)
      go false e false f = refl

  -- the lists are as long
  same_length : (s : ℕ) → s < a.states → length (p.lists s) ≡ length (q.lists s)
  same_length s h = omega (arith, (x.shortest s h).1.least (q.lists s) (y.shortest s h).1.meets, (y.shortest s h).1.least (p.lists s) (x.shortest s h).1.meets)

  block_same : (s : ℕ) → s < a.states → length (pair_block a p s) ≡ length (pair_block a q s)
  block_same s h = block_length a p s ∙ (λ i. made (same_opened s h i) (same_length s h i)) ∙ sym (block_length a q s)

  turn_same : (b : Bool) (s : ℕ) → s < a.states → length (cond b (pair_block a p s) []) ≡ length (cond b (pair_block a q s) [])
  turn_same true s h = block_same s h
  turn_same false s h = refl

  level_same : (d n : ℕ) → n ≤ a.states → length (pair_level a p d n) ≡ length (pair_level a q d n)
  level_same d zero h = refl
  level_same d (suc n) h =
      let t = turn_same (eqb ((forest_of a).depth n) d) n (omega arith) in
      let u = length-append (pair_level a p d n) (cond (eqb ((forest_of a).depth n) d) (pair_block a p n) []) in
      let v = length-append (pair_level a q d n) (cond (eqb ((forest_of a).depth n) d) (pair_block a q n) []) in
      omega (arith, t, u, v, level_same d n (omega arith))

  levels_same : (d : ℕ) → length (pair_levels a p d) ≡ length (pair_levels a q d)
  levels_same zero = refl
  levels_same (suc d) =
      let states = (forest_stands a).states in
      let u = length-append (pair_level a p d (forest_of a).states) (pair_levels a p d) in
      let v = length-append (pair_level a q d (forest_of a).states) (pair_levels a q d) in
      omega (arith, u, v, level_same d (forest_of a).states (omega (arith, states)), levels_same d)

  pub table_same : length (pair_table a p) ≡ length (pair_table a q)
  table_same = levels_same (height (forest_of a) (forest_of a).states)

  -- so the images are
  pub one_size : image_size (parts_over a q) ≡ image_size (parts_over a p)
  one_size = ap (λ (n : ℕ). size (length (map (code_of a) (range_with_len 0 a.states))) n) (sym table_same)
