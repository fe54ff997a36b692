-- The pieces of a state's two-byte entries. Assumes nothing.
use Rattle.std.proofs.Common.{◌≡◌, ℕ, zero, suc, ◌+◌, ◌<◌, ◌≤◌, Bool, true, false, cond, eqb, List, [], ◌∷◌, ◌++◌, map, length, Result, Ok, Err, sym, refl, ap, ◌∙◌, subst, append_assoc, add-one, arith, length-append, inl, inr}
use Rattle.std.proofs.lemmas.List.{append-nil, map-append}
use Rattle.std.proofs.lemmas.Bool.{eq-eqb, ne_eqb, cases_eq}
use Rattle.ternary.specs.declared.entry.Entry.{Entry}
use Rattle.ternary.specs.declared.refusal.Refusal.{Refusal}
use Rattle.ternary.specs.declared.words.StateNo.{StateNo}
use Rattle.automaton.specs.Runs.{Dfa}
use Rattle.prefix.specs.declared.word.PrefixWord.{PrefixWord}
use Rattle.forest.specs.Deferment.{forest_of}
use Rattle.forest.specs.Table.{height}
use Rattle.builder.specs.Lists.{entry_for}
use Rattle.builder.specs.Gathering.{lists_of}
use Rattle.pairs.specs.declared.pair.PairEntry.{PairEntry}
use Rattle.pair_builder.specs.Unrolled.{single, double, unrolled, Choice, closing_word, own, all_but_last, pair_block, pair_level, pair_levels}
use Rattle.pair_builder.specs.Choosing.{Gathers, front_of, choice_of}
use Rattle.pair_builder.proofs.Unrolling.{but_last}

map-map : {X Y Z : Type 0} (g : Y → Z) (f : X → Y) (xs : List X) → map g (map f xs) ≡ map (λ x. g (f x)) xs
map-map g f [] = refl
map-map g f (x ∷ xs) = ap (λ l. g (f x) ∷ l) (map-map g f xs)

module _ (a : Dfa) (s : ℕ) where
  abbrev last : Entry
  last = entry_for a s (closing_word s)

  -- entries of one byte, entries of two, and one entry more
  pub opened_block : (choice_of a).opened s ≡ true → pair_block a (choice_of a) s
      ≡ map (λ w. single (entry_for a s w)) (front_of a s) ++ (map (λ w. double (entry_for a s (closing_word s)) (entry_for a s w)) (front_of a s) ++ double (entry_for a s (closing_word s)) (entry_for a s (closing_word s)) ∷ [])
  opened_block is =
      let es = own a (choice_of a) s in
      let front = map (entry_for a s) (front_of a s) in
      let whole : es ≡ front ++ last ∷ [] = ap (λ b. map (entry_for a s) (cond b (front_of a s ++ closing_word s ∷ []) (lists_of a s))) is ∙ map-append (entry_for a s) (front_of a s) (closing_word s ∷ []) in
      ap (λ b. cond b (map single (all_but_last es) ++ unrolled last es) (map single es)) is
      ∙ (λ i. map single ((ap all_but_last whole ∙ but_last front last) i) ++ map (double last) (whole i))
      ∙ (λ i. map-map single (entry_for a s) (front_of a s) i ++ map-append (double last) front (last ∷ []) i)
      ∙ ap (λ (l : List PairEntry). map (λ w. single (entry_for a s w)) (front_of a s) ++ (l ++ double last last ∷ [])) (map-map (double last) (entry_for a s) (front_of a s))

  pub kept_block : (choice_of a).opened s ≡ false → pair_block a (choice_of a) s ≡ map (λ w. single (entry_for a s w)) (lists_of a s)
  kept_block is =
      let es = own a (choice_of a) s in
      ap (λ b. cond b (map single (all_but_last es) ++ unrolled last es) (map single es)) is
      ∙ ap (λ b. map single (map (entry_for a s) (cond b (front_of a s ++ closing_word s ∷ []) (lists_of a s)))) is
      ∙ map-map single (entry_for a s) (lists_of a s)

-- what is gathered of one list is gathered of an equal one
pub gathers_same : (before after more other : List PairEntry) (r : Result (Unit {0}) Refusal) → more ≡ other → Gathers before after more r → Gathers before after other r
gathers_same before after more other r e g = subst (λ (l : List PairEntry). Gathers before after l r) e g

-- a level grows with its states
pub level_grows : (a : Dfa) (p : Choice) (d n m : ℕ) → n ≤ m → length (pair_level a p d n) ≤ length (pair_level a p d m)
level_grows a p d n zero h = omega (arith, ap (λ (k : ℕ). length (pair_level a p d k)) (none n h))
  where
    none : (k : ℕ) → k ≤ 0 → k ≡ 0
    none k q = omega arith
level_grows a p d n (suc m) h = elim (cases_eq n (suc m)) [
  | inl e ↦ omega (arith, ap (λ (k : ℕ). length (pair_level a p d k)) e)
  | inr ne ↦ omega (arith, level_grows a p d n m (omega arith), length-append (pair_level a p d m) (cond (eqb ((forest_of a).depth m) d) (pair_block a p m) []))
]

pub level_with : (a : Dfa) (p : Choice) (d s : ℕ) → (forest_of a).depth s ≡ d → pair_level a p d (s + 1) ≡ pair_level a p d s ++ pair_block a p s
level_with a p d s e = ap (pair_level a p d) (add-one s) ∙ ap (λ (b : Bool). pair_level a p d s ++ cond b (pair_block a p s) []) (eq-eqb ((forest_of a).depth s) d e)

pub level_without : (a : Dfa) (p : Choice) (d s : ℕ) → ((forest_of a).depth s ≡ d → ⊥) → pair_level a p d (s + 1) ≡ pair_level a p d s
level_without a p d s ne = ap (pair_level a p d) (add-one s) ∙ (ap (λ (b : Bool). pair_level a p d s ++ cond b (pair_block a p s) []) (ne_eqb ((forest_of a).depth s) d ne) ∙ append-nil (pair_level a p d s))

pub levels_next : (a : Dfa) (p : Choice) (d k n : ℕ) → d ≡ suc k → (forest_of a).states ≡ n → pair_levels a p d ≡ pair_level a p k n ++ pair_levels a p k
levels_next a p d k n e states = ap (pair_levels a p) e ∙ ap (λ (m : ℕ). pair_level a p k m ++ pair_levels a p k) states

-- three pieces, one after another
pub gathered_three : (before one two after s d l whole : List PairEntry) (r : Result (Unit {0}) Refusal) → one ≡ before ++ s → two ≡ one ++ d → whole ≡ s ++ (d ++ l) → Gathers two after l r → Gathers before after whole r
gathered_three before one two after s d l whole (Ok u) p q e g =
    g ∙ ap (λ x. x ++ l) (q ∙ ap (λ x. x ++ d) p)
    ∙ append_assoc (before ++ s) d l ∙ append_assoc before s (d ++ l) ∙ ap (λ x. before ++ x) (sym e)
gathered_three before one two after s d l whole (Err why) p q e g =
    (g.0, omega (arith, g.1, ap length p, ap length q, ap length e, length-append before s, length-append one d, length-append s (d ++ l), length-append d l))
