-- The entries of one state in a two-byte table. Assumes nothing.
use Rattle.std.proofs.Common.{◌≡◌, ℕ, zero, suc, ◌<◌, ◌≤◌, Bool, true, false, cond, ◌&&◌, eqb, List, [], ◌∷◌, ◌++◌, map, filter, sym, refl, ap, ◌∙◌, subst, ap₂, inl, inr, not-suc-le-zero, arith}
use lib.Bits.{bit_and}
use Rattle.std.proofs.lemmas.List.Elements.{filter-append}
use Rattle.std.proofs.lemmas.List.{append-nil}
use Rattle.std.proofs.lemmas.Bool.{eq-eqb, ne_eqb, cases_eq}
use Rattle.ternary.specs.declared.entry.Entry.{Entry}
use Rattle.ternary.specs.declared.words.StateNo.{StateNo}
use Rattle.automaton.specs.Runs.{Dfa}
use Rattle.prefix.specs.declared.word.PrefixWord.{PrefixWord}
use Rattle.forest.specs.Forest.{Forest, code, mask, here}
use Rattle.forest.specs.Deferment.{forest_of}
use Rattle.forest.specs.Table.{height}
use Rattle.forest.proofs.Deferred.{forest_stands}
use Rattle.builder.specs.Lists.{entry_for}
use Rattle.builder.proofs.Blocks.{below_height}
use Rattle.builder.proofs.Ruling.{shadows_of}
use Rattle.pairs.specs.declared.pair.PairEntry.{PairEntry}
use Rattle.pair_image.specs.Format.{Parts, decode}
use Rattle.pair_builder.specs.Unrolled.{single, double, unrolled, Choice, Chosen, closing_word, all_but_last, block_of, pair_block, pair_level, pair_levels, pair_table}
use Rattle.pair_builder.specs.Build.{parts_over, has_shadow, ShortestImage}

module _ (a : Dfa) (s : ℕ) (hs : s < (forest_of a).states) where
  abbrev own_shadow : PairEntry → Bool
  own_shadow e = has_shadow (forest_of a) s e

  -- a value and a mask are those of the state
  abbrev alike : ℕ → ℕ → Bool
  alike value place = eqb value (code (forest_of a) s) && eqb place (mask (forest_of a) s)

  -- an entry of t has the code of t as its value
  value_is : (t : ℕ) → t < (forest_of a).states → bit_and (code (forest_of a) t) (mask (forest_of a) t) ≡ code (forest_of a) t
  value_is t ht = (shadows_of a).met t t ht ht here

  -- whether an entry of t has the shadow of s
  abbrev turned : ℕ → Bool
  turned t = alike (bit_and (code (forest_of a) t) (mask (forest_of a) t)) (mask (forest_of a) t)

  turned_other : (t : ℕ) → t < (forest_of a).states → (t ≡ s → ⊥) → turned t ≡ false
  turned_other t ht ne =
      ap (λ (b : Bool). b && eqb (mask (forest_of a) t) (mask (forest_of a) s))
      (ne_eqb (bit_and (code (forest_of a) t) (mask (forest_of a) t)) (code (forest_of a) s) (λ e. ne ((shadows_of a).differ t s ht hs (sym (value_is t ht) ∙ e))))

  turned_own : turned s ≡ true
  turned_own =
      ap₂ (λ (b c : Bool). b && c)
      (eq-eqb (bit_and (code (forest_of a) s) (mask (forest_of a) s)) (code (forest_of a) s) (value_is s hs))
      (eq-eqb (mask (forest_of a) s) (mask (forest_of a) s) refl)

  -- ---- a list of entries of which each has, or has not, the shadow

  data Each (b : Bool) : List PairEntry → Type 0 where
    none : Each b []
    more : {e : PairEntry} {es : List PairEntry} → own_shadow e ≡ b → Each b es → Each b (e ∷ es)

  each-++ : {b : Bool} (xs ys : List PairEntry) → Each b xs → Each b ys → Each b (xs ++ ys)
  each-++ [] ys none y = y
  each-++ (x ∷ xs) ys (more h rest) y = more h (each-++ xs ys rest y)

  keeps_none : (es : List PairEntry) → Each false es → filter own_shadow es ≡ []
  keeps_none [] none = refl
  keeps_none (e ∷ es) (more h rest) = ap (λ (b : Bool). cond b (e ∷ filter own_shadow es) (filter own_shadow es)) h ∙ keeps_none es rest

  keeps_all : (es : List PairEntry) → Each true es → filter own_shadow es ≡ es
  keeps_all [] none = refl
  keeps_all (e ∷ es) (more h rest) =
      ap (λ (b : Bool). cond b (e ∷ filter own_shadow es) (filter own_shadow es)) h ∙ ap (λ (l : List PairEntry). e ∷ l) (keeps_all es rest)

  -- each entry of a block has the code value and the code mask of its state
  module _ (t : ℕ) (b : Bool) (is : turned t ≡ b) where
    singles : (ws : List (PrefixWord StateNo)) → Each b (map single (map (entry_for a t) ws))
    singles [] = none
    singles (w ∷ ws) = more is (singles ws)

    singles_but_last : (ws : List (PrefixWord StateNo)) → Each b (map single (all_but_last (map (entry_for a t) ws)))
    singles_but_last [] = none
    singles_but_last (w ∷ []) = none
    singles_but_last (w ∷ v ∷ ws) = more is (singles_but_last (v ∷ ws))

    doubles : (es : List Entry) → Each b (unrolled (entry_for a t (closing_word t)) es)
    doubles [] = none
    doubles (e ∷ es) = more is (doubles es)

    block : (opened : Bool) (ws : List (PrefixWord StateNo)) → Each b (block_of a t opened ws)
    block true ws = each-++ _ _ (singles_but_last ws) (doubles (map (entry_for a t) ws))
    block false ws = singles ws

  -- ---- levels

  module _ (p : Choice) where
    turn_other : (d t : ℕ) → t < (forest_of a).states → (t ≡ s → ⊥) → filter own_shadow (cond (eqb ((forest_of a).depth t) d) (pair_block a p t) []) ≡ []
    turn_other d t ht ne = go (eqb ((forest_of a).depth t) d)
      where
        go : (b : Bool) → filter own_shadow (cond b (pair_block a p t) []) ≡ []
        go true = keeps_none (pair_block a p t) (block t false (turned_other t ht ne) (p.opened t) (p.lists t))
        go false = refl

    turn_deeper : (d t : ℕ) → ((forest_of a).depth t ≡ d → ⊥) → filter own_shadow (cond (eqb ((forest_of a).depth t) d) (pair_block a p t) []) ≡ []
    turn_deeper d t ne = ap (λ (b : Bool). filter own_shadow (cond b (pair_block a p t) [])) (ne_eqb ((forest_of a).depth t) d ne)

    turn_own : (d : ℕ) → (forest_of a).depth s ≡ d → filter own_shadow (cond (eqb ((forest_of a).depth s) d) (pair_block a p s) []) ≡ pair_block a p s
    turn_own d e =
        ap (λ (b : Bool). filter own_shadow (cond b (pair_block a p s) [])) (eq-eqb ((forest_of a).depth s) d e)
        ∙ keeps_all (pair_block a p s) (block s true turned_own (p.opened s) (p.lists s))

    -- one more state of a level
    level_kept : (d n : ℕ) (xs ys : List PairEntry) → filter own_shadow (pair_level a p d n) ≡ xs → filter own_shadow (cond (eqb ((forest_of a).depth n) d) (pair_block a p n) []) ≡ ys →
        filter own_shadow (pair_level a p d (suc n)) ≡ xs ++ ys
    level_kept d n xs ys x y = filter-append own_shadow (pair_level a p d n) (cond (eqb ((forest_of a).depth n) d) (pair_block a p n) []) ∙ ap₂ (λ (us vs : List PairEntry). us ++ vs) x y

    -- a level without the state keeps nothing
    level_none : (d n : ℕ) → n ≤ (forest_of a).states → ((t : ℕ) → t < n → t ≡ s → (forest_of a).depth t ≡ d → ⊥) → filter own_shadow (pair_level a p d n) ≡ []
    level_none d zero h miss = refl
    level_none d (suc n) h miss =
        level_kept d n [] [] (level_none d n (omega arith) (λ t ht. miss t (omega arith)))
        (elim (cases_eq n s) [
          | inl e ↦ turn_deeper d n (miss n (omega arith) e)
          | inr ne ↦ turn_other d n (omega arith) ne
        ])

    -- the level of the state keeps its block
    level_own : (d n : ℕ) → n ≤ (forest_of a).states → s < n → (forest_of a).depth s ≡ d → filter own_shadow (pair_level a p d n) ≡ pair_block a p s
    level_own d zero h hn e = absurd (not-suc-le-zero hn)
    level_own d (suc n) h hn e = elim (cases_eq n s) [
      | inl is ↦
          level_kept d n [] (pair_block a p s) (level_none d n (omega arith) (λ t ht et. absurd (omega arith)))
          (subst (λ (m : ℕ). filter own_shadow (cond (eqb ((forest_of a).depth m) d) (pair_block a p m) []) ≡ pair_block a p s) (sym is) (turn_own d e))
      | inr ne ↦
          level_kept d n (pair_block a p s) [] (level_own d n (omega arith) (omega arith) e) (turn_other d n (omega arith) ne)
          ∙ append-nil (pair_block a p s)
    ]

    -- the levels below the state keep nothing, and those from its own on keep its block
    levels_none : (d : ℕ) → d ≤ (forest_of a).depth s → filter own_shadow (pair_levels a p d) ≡ []
    levels_none zero h = refl
    levels_none (suc d) h =
        filter-append own_shadow (pair_level a p d (forest_of a).states) (pair_levels a p d)
        ∙ ap₂ (λ (us vs : List PairEntry). us ++ vs)
        (level_none d (forest_of a).states (omega arith) (λ t ht e k. omega (arith, ap (λ (n : ℕ). (forest_of a).depth n) e)))
        (levels_none d (omega arith))

    levels_own : (d : ℕ) → (forest_of a).depth s < d → filter own_shadow (pair_levels a p d) ≡ pair_block a p s
    levels_own zero h = absurd (not-suc-le-zero h)
    levels_own (suc d) h =
        filter-append own_shadow (pair_level a p d (forest_of a).states) (pair_levels a p d)
        ∙ (elim (cases_eq ((forest_of a).depth s) d) [
          | inl e ↦
              ap₂ (λ (us vs : List PairEntry). us ++ vs) (level_own d (forest_of a).states (omega arith) hs e) (levels_none d (omega arith))
              ∙ append-nil (pair_block a p s)
          | inr ne ↦
              ap₂ (λ (us vs : List PairEntry). us ++ vs)
              (level_none d (forest_of a).states (omega arith) (λ t ht e k. ne (ap (λ (n : ℕ). (forest_of a).depth n) (sym e) ∙ k)))
              (levels_own d (omega arith))
        ])

    -- the entries of a table behind the shadow of a state are its block
    pub kept_block : filter own_shadow (pair_table a p) ≡ pair_block a p s
    kept_block = levels_own (height (forest_of a) (forest_of a).states) (below_height (forest_of a) (forest_of a).states s hs)

-- the entries behind each shadow are those of a shortest list
pub shortest_image : (a : Dfa) (p : Choice) → Chosen a p → (bytes : List ℕ) → decode bytes ≡ parts_over a p → ShortestImage a bytes
shortest_image a p chosen bytes says s h =
    let inside : s < (forest_of a).states = subst (λ (n : ℕ). s < n) (sym (forest_stands a).states) h in
    record {
      list = p.lists s;
      opened = p.opened s;
      formed = (chosen.shortest s h).0;
      shortest = (chosen.shortest s h).1;
      unrolls = chosen.unrolls s h;
      keeps = chosen.keeps s h;
      behind = ap (λ (q : Parts). filter (has_shadow (forest_of a) s) q.entries) says ∙ kept_block a s inside p;
    }
