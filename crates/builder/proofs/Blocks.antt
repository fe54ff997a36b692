-- The entries of one state in a table, and how long a table is. Assumes nothing.
use Rattle.std.proofs.Common.{◌≡◌, ℕ, zero, suc, ◌+◌, ◌<◌, ◌≤◌, Bool, true, false, cond, ◌&&◌, eqb, List, [], ◌∷◌, ◌++◌, map, length, filter, sym, refl, ap, ◌∙◌, subst, ap₂, inl, inr, not-suc-le-zero, add-one, arith, length-append}
use lib.Bits.{bit_and}
use lib.ListN.{length-map}
use Rattle.std.specs.List.{AllByRecursion}
use Rattle.std.proofs.lemmas.List.Elements.{filter-append}
use Rattle.std.proofs.ByRecursion.{All-append}
use Rattle.std.proofs.lemmas.List.{append-nil}
use Rattle.std.proofs.lemmas.Bool.{eq-eqb, ne_eqb, cases_eq}
use Rattle.ternary.specs.declared.entry.Entry.{Entry}
use Rattle.ternary.specs.declared.words.StateNo.{StateNo}
use Rattle.automaton.specs.Runs.{Dfa}
use Rattle.prefix.specs.declared.word.PrefixWord.{PrefixWord}
use Rattle.forest.specs.Words.{ByteWord}
use Rattle.forest.specs.Forest.{Forest, code, mask, here}
use Rattle.forest.specs.Deferment.{forest_of}
use Rattle.forest.specs.Laws.{Shadows}
use Rattle.forest.specs.Table.{entry, block, level, levels, height, table}
use Rattle.builder.specs.Build.{has_shadow}
use Rattle.builder.specs.Lists.{Lists, byte_word, entry_for}

-- every depth is below the height
pub below_height : (f : Forest) (n s : ℕ) → s < n → f.depth s < height f n
below_height f zero s h = absurd (not-suc-le-zero h)
below_height f (suc n) s h = elim (cases_eq s n) [
  | inl e ↦ omega (arith, ap (λ (k : ℕ). f.depth k) e)
  | inr ne ↦ omega (arith, below_height f n s (omega arith))
]

-- the words of a prefix list behind a shadow
pub block_entries : (a : Dfa) (s : ℕ) (ws : List (PrefixWord StateNo)) → map (entry a (forest_of a) s) (map byte_word ws) ≡ map (entry_for a s) ws
block_entries a s [] = refl
block_entries a s (w ∷ ws) = ap (λ (es : List Entry). entry_for a s w ∷ es) (block_entries a s ws)

-- the entries of the states less deep than d, over some lists
abbrev pub levels_over : Dfa → Lists → ℕ → List Entry
levels_over a lists = levels a (forest_of a) (λ s. map byte_word (lists s))

-- ---- the entries behind one shadow

module _ (a : Dfa) (f : Forest) (shadows : Shadows f) (s : ℕ) (hs : s < f.states) where
  -- an entry of t has the code of t as its value
  value_is : (t : ℕ) → t < f.states → bit_and (code f t) (mask f t) ≡ code f t
  value_is t ht = shadows.met t t ht ht here

  -- the words of another state are left out
  block_other : (t : ℕ) → t < f.states → (t ≡ s → ⊥) → (ws : List ByteWord) → filter (has_shadow f s) (map (entry a f t) ws) ≡ []
  block_other t ht ne [] = refl
  block_other t ht ne (w ∷ ws) =
      let unlike : eqb (bit_and (code f t) (mask f t)) (code f s) ≡ false = ne_eqb (bit_and (code f t) (mask f t)) (code f s) (λ e. ne (shadows.differ t s ht hs (sym (value_is t ht) ∙ e))) in
      ap (λ (b : Bool). cond (b && eqb (mask f t) (mask f s)) (entry a f t w ∷ filter (has_shadow f s) (map (entry a f t) ws)) (filter (has_shadow f s) (map (entry a f t) ws))) unlike
      ∙ block_other t ht ne ws

  -- and those of the state are kept
  block_own : (ws : List ByteWord) → filter (has_shadow f s) (map (entry a f s) ws) ≡ map (entry a f s) ws
  block_own [] = refl
  block_own (w ∷ ws) =
      let alike : eqb (bit_and (code f s) (mask f s)) (code f s) ≡ true = eq-eqb (bit_and (code f s) (mask f s)) (code f s) (value_is s hs) in
      let too : eqb (mask f s) (mask f s) ≡ true = eq-eqb (mask f s) (mask f s) refl in
      ap₂ (λ (b c : Bool). cond (b && c) (entry a f s w ∷ filter (has_shadow f s) (map (entry a f s) ws)) (filter (has_shadow f s) (map (entry a f s) ws))) alike too
      ∙ ap (λ (es : List Entry). entry a f s w ∷ es) (block_own ws)

  module _ (words : ℕ → List ByteWord) where
    -- what is kept of the block of t at the depth d
    turn_other : (d t : ℕ) → t < f.states → (t ≡ s → ⊥) → filter (has_shadow f s) (cond (eqb (f.depth t) d) (block a f words t) []) ≡ []
    turn_other d t ht ne = go (eqb (f.depth t) d)
      where
        go : (b : Bool) → filter (has_shadow f s) (cond b (block a f words t) []) ≡ []
        go true = block_other t ht ne (words t)
        go false = refl

    turn_deeper : (d t : ℕ) → (f.depth t ≡ d → ⊥) → filter (has_shadow f s) (cond (eqb (f.depth t) d) (block a f words t) []) ≡ []
    turn_deeper d t ne = ap (λ (b : Bool). filter (has_shadow f s) (cond b (block a f words t) [])) (ne_eqb (f.depth t) d ne)

    turn_own : (d : ℕ) → f.depth s ≡ d → filter (has_shadow f s) (cond (eqb (f.depth s) d) (block a f words s) []) ≡ block a f words s
    turn_own d e = ap (λ (b : Bool). filter (has_shadow f s) (cond b (block a f words s) [])) (eq-eqb (f.depth s) d e) ∙ block_own (words s)

    -- one more state of a level
    level_kept : (d n : ℕ) (xs ys : List Entry) → filter (has_shadow f s) (level a f words d n) ≡ xs → filter (has_shadow f s) (cond (eqb (f.depth n) d) (block a f words n) []) ≡ ys →
        filter (has_shadow f s) (level a f words d (suc n)) ≡ xs ++ ys
    level_kept d n xs ys p q = filter-append (has_shadow f s) (level a f words d n) (cond (eqb (f.depth n) d) (block a f words n) []) ∙ ap₂ (λ (us vs : List Entry). us ++ vs) p q

    -- a level without the state keeps nothing
    level_none : (d n : ℕ) → n ≤ f.states → ((t : ℕ) → t < n → t ≡ s → f.depth t ≡ d → ⊥) → filter (has_shadow f s) (level a f words d n) ≡ []
    level_none d zero h miss = refl
    level_none d (suc n) h miss =
        level_kept d n [] [] (level_none d n (omega arith) (λ t ht. miss t (omega arith)))
        (elim (cases_eq n s) [
          | inl e ↦ turn_deeper d n (miss n (omega arith) e)
          | inr ne ↦ turn_other d n (omega arith) ne
        ])

    -- the level of the state keeps its block
    level_own : (d n : ℕ) → n ≤ f.states → s < n → f.depth s ≡ d → filter (has_shadow f s) (level a f words d n) ≡ block a f words s
    level_own d zero h hn e = absurd (not-suc-le-zero hn)
    level_own d (suc n) h hn e = elim (cases_eq n s) [
      | inl is ↦
          level_kept d n [] (block a f words s) (level_none d n (omega arith) (λ t ht et. absurd (omega arith)))
          (subst (λ (m : ℕ). filter (has_shadow f s) (cond (eqb (f.depth m) d) (block a f words m) []) ≡ block a f words s) (sym is) (turn_own d e))
      | inr ne ↦
          level_kept d n (block a f words s) [] (level_own d n (omega arith) (omega arith) e) (turn_other d n (omega arith) ne)
          ∙ append-nil (block a f words s)
    ]

    -- the levels below the state keep nothing, and those from its own on keep its block
    levels_none : (d : ℕ) → d ≤ f.depth s → filter (has_shadow f s) (levels a f words d) ≡ []
    levels_none zero h = refl
    levels_none (suc d) h =
        filter-append (has_shadow f s) (level a f words d f.states) (levels a f words d)
        ∙ ap₂ (λ (us vs : List Entry). us ++ vs)
        (level_none d f.states (omega arith) (λ t ht e k. omega (arith, ap (λ (n : ℕ). f.depth n) e)))
        (levels_none d (omega arith))

    levels_own : (d : ℕ) → f.depth s < d → filter (has_shadow f s) (levels a f words d) ≡ block a f words s
    levels_own zero h = absurd (not-suc-le-zero h)
    levels_own (suc d) h =
        filter-append (has_shadow f s) (level a f words d f.states) (levels a f words d)
        ∙ (elim (cases_eq (f.depth s) d) [
          | inl e ↦
              ap₂ (λ (us vs : List Entry). us ++ vs) (level_own d f.states (omega arith) hs e) (levels_none d (omega arith))
              ∙ append-nil (block a f words s)
          | inr ne ↦
              ap₂ (λ (us vs : List Entry). us ++ vs)
              (level_none d f.states (omega arith) (λ t ht e k. ne (ap (λ (n : ℕ). f.depth n) (sym e) ∙ k)))
              (levels_own d (omega arith))
        ])

    -- the entries of a table behind the shadow of a state are its block
    pub kept_block : filter (has_shadow f s) (table a f words) ≡ block a f words s
    kept_block = levels_own (height f f.states) (below_height f f.states s hs)

-- ---- the length of a table

-- shorter lists make a shorter table
module _ (a : Dfa) (f : Forest) (words others : ℕ → List ByteWord) (less : (s : ℕ) → s < f.states → length (words s) ≤ length (others s)) where
  turn≤ : (b : Bool) (s : ℕ) → s < f.states → length (cond b (block a f words s) []) ≤ length (cond b (block a f others s) [])
  turn≤ true s h = omega (arith, less s h, length-map (words s) (entry a f s), length-map (others s) (entry a f s))
  turn≤ false s h = omega arith

  level≤ : (d n : ℕ) → n ≤ f.states → length (level a f words d n) ≤ length (level a f others d n)
  level≤ d zero h = omega arith
  level≤ d (suc n) h =
      let x = turn≤ (eqb (f.depth n) d) n (omega arith) in
      let p = length-append (level a f words d n) (cond (eqb (f.depth n) d) (block a f words n) []) in
      let q = length-append (level a f others d n) (cond (eqb (f.depth n) d) (block a f others n) []) in
      omega (arith, x, p, q, level≤ d n (omega arith))

  levels≤ : (d : ℕ) → length (levels a f words d) ≤ length (levels a f others d)
  levels≤ zero = omega arith
  levels≤ (suc d) =
      let p = length-append (level a f words d f.states) (levels a f words d) in
      let q = length-append (level a f others d f.states) (levels a f others d) in
      omega (arith, p, q, level≤ d f.states (omega arith), levels≤ d)

  pub table≤ : length (table a f words) ≤ length (table a f others)
  table≤ = levels≤ (height f f.states)

-- a level grows with its states
module _ (a : Dfa) (f : Forest) (words : ℕ → List ByteWord) where
  pub level_grows : (d n m : ℕ) → n ≤ m → length (level a f words d n) ≤ length (level a f words d m)
  level_grows d n zero h = omega (arith, ap (λ (k : ℕ). length (level a f words d k)) (none n h))
    where
      none : (k : ℕ) → k ≤ 0 → k ≡ 0
      none k q = omega arith
  level_grows d n (suc m) h = elim (cases_eq n (suc m)) [
    | inl e ↦ omega (arith, ap (λ (k : ℕ). length (level a f words d k)) e)
    | inr ne ↦ omega (arith, level_grows d n m (omega arith), length-append (level a f words d m) (cond (eqb (f.depth m) d) (block a f words m) []))
  ]

  -- one more state of a level: its block if it stands at the depth, else nothing
  pub level_with : (d s : ℕ) → f.depth s ≡ d → level a f words d (s + 1) ≡ level a f words d s ++ block a f words s
  level_with d s e = ap (level a f words d) (add-one s) ∙ ap (λ (b : Bool). level a f words d s ++ cond b (block a f words s) []) (eq-eqb (f.depth s) d e)

  pub level_without : (d s : ℕ) → (f.depth s ≡ d → ⊥) → level a f words d (s + 1) ≡ level a f words d s
  level_without d s ne = ap (level a f words d) (add-one s) ∙ (ap (λ (b : Bool). level a f words d s ++ cond b (block a f words s) []) (ne_eqb (f.depth s) d ne) ∙ append-nil (level a f words d s))

-- the levels below d + 1: that of d, and those below it
pub levels_next : (a : Dfa) (f : Forest) (words : ℕ → List ByteWord) (d k n : ℕ) → d ≡ suc k → f.states ≡ n → levels a f words d ≡ level a f words k n ++ levels a f words k
levels_next a f words d k n e states = ap (levels a f words) e ∙ ap (λ (m : ℕ). level a f words k m ++ levels a f words k) states

-- ---- what holds of each entry of a table

module _ (P : Entry → Type 0) (a : Dfa) (f : Forest) (words : ℕ → List ByteWord) (each : (s : ℕ) → s < f.states → AllByRecursion P (block a f words s)) where
  all_turn : (b : Bool) (s : ℕ) → s < f.states → AllByRecursion P (cond b (block a f words s) [])
  all_turn true s h = each s h
  all_turn false s h = tt

  all_level : (d n : ℕ) → n ≤ f.states → AllByRecursion P (level a f words d n)
  all_level d zero h = tt
  all_level d (suc n) h = All-append P (level a f words d n) _ (all_level d n (omega arith)) (all_turn (eqb (f.depth n) d) n (omega arith))

  all_levels : (d : ℕ) → AllByRecursion P (levels a f words d)
  all_levels zero = tt
  all_levels (suc d) = All-append P (level a f words d f.states) _ (all_level d f.states (omega arith)) (all_levels d)

  pub all_table : AllByRecursion P (table a f words)
  all_table = all_levels (height f f.states)
