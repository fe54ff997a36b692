-- A two-byte table with unrolled roots carries the automaton of its one-byte table. Assumes nothing.
use Rattle.std.proofs.Common.{◌≡◌, ℕ, zero, suc, ◌+◌, ◌<◌, ◌≤◌, Bool, true, false, cond, ◌&&◌, eqb, List, [], ◌∷◌, ◌++◌, map, Some, None, Option, sym, refl, ap, ◌∙◌, subst, arith}
use lib.Bits.{bit_and, and_zero_r}
use Rattle.std.specs.Option.{option_map, option_or}
use Rattle.std.proofs.lemmas.List.{map-append}
use Rattle.std.proofs.lemmas.Bool.{eq-eqb, cases_eq}
use Rattle.ternary.specs.declared.entry.Entry.{Entry}
use Rattle.ternary.specs.declared.words.StateNo.{StateNo}
use Rattle.ternary.specs.declared.words.StateCode.{StateCode}
use Rattle.ternary.specs.Match as one
use Rattle.ternary.proofs.FirstMatch as single_first
use Rattle.automaton.specs.Runs.{Dfa}
use Rattle.table.specs.Acceptance as table
use Rattle.prefix.specs.declared.word.PrefixWord.{PrefixWord}
use Rattle.forest.specs.Forest.{Forest, code, mask}
use Rattle.forest.specs.Deferment.{forest_of}
use Rattle.forest.specs.Table.{first_word, Deferrable, Gives, entry, block, level, levels, height, decision}
use Rattle.forest.specs.Table as forest
use Rattle.forest.proofs.Deferred.{forest_stands, automaton_stands}
use Rattle.builder.specs.Lists.{Lists, byte_word, entry_for, code_of, table_over}
use Rattle.builder.proofs.Matching.{words_rule}
use Rattle.builder.proofs.Blocks.{block_entries}
use Rattle.pairs.specs.declared.stride.Stride.TheVariants.{One, Two}
use Rattle.pairs.specs.declared.pair.PairEntry.{PairEntry}
use Rattle.pairs.specs.Match.{Decision, first, matches, pick}
use Rattle.pairs.specs.Carries.{RightStep}
use Rattle.pairs.specs.Carries as pairs
use Rattle.pairs.proofs.FirstMatch.{first-++}
use Rattle.pair_builder.specs.Unrolled.{single, double, decided_by, unrolled, Choice, closing_word, Closes, IsQuietRoot, Chosen, own, all_but_last, pair_block, pair_level, pair_levels, pair_table}

-- ---- what a two-byte list decides beside a one-byte list

-- nothing; or the same by one byte; or, where the one-byte decision has class 0, what the whole one-byte table decides next, by two
pub data Follows (whole : List Entry) (c : ℕ) : Option one.Decision → Option Decision → Type 0 where
  nothing : Follows whole c None None
  by_one : (d : one.Decision) → Follows whole c (Some d) (Some (d.0, d.1, One))
  by_two : (d e : one.Decision) → d.1 ≡ 0 → one.first whole d.0.0 c ≡ Some e → Follows whole c (Some d) (Some (e.0, e.1, Two))

pub follows_or : (whole : List Entry) (c : ℕ) (o p : Option one.Decision) (x y : Option Decision) → Follows whole c o x → Follows whole c p y → Follows whole c (option_or o p) (option_or x y)
follows_or whole c o p x y nothing g = g
follows_or whole c o p x y (by_one d) g = by_one d
follows_or whole c o p x y (by_two d e quiet then) g = by_two d e quiet then

-- two lists in a row
follows-++ : (whole es fs : List Entry) (ds gs : List PairEntry) (k b c : ℕ) → Follows whole c (one.first es k b) (first ds k b c) → Follows whole c (one.first fs k b) (first gs k b c)
    → Follows whole c (one.first (es ++ fs) k b) (first (ds ++ gs) k b c)
follows-++ whole es fs ds gs k b c p q =
    subst (λ (x : Option Decision). Follows whole c (one.first (es ++ fs) k b) x) (sym (first-++ ds gs k b c))
    (subst (λ (o : Option one.Decision). Follows whole c o (option_or (first ds k b c) (first gs k b c))) (sym (single_first.first-++ es fs k b))
    (follows_or whole c (one.first es k b) (one.first fs k b) (first ds k b c) (first gs k b c) p q))

-- a list that follows one that carries an automaton carries it
pub follows_carries : (a : Dfa) (code : ℕ → StateCode) (es : List Entry) (ds : List PairEntry) → table.Carries a code es
    → ((s b c : ℕ) → s < a.states → b < 256 → c < 256 → Follows es c (one.first es (code s).0 b) (first ds (code s).0 b c)) → ((s b : ℕ) → s < a.states → b < 256 → a.next s b < a.states) → pairs.Carries a code ds
follows_carries a code es ds carries follows below s hs b hb c hc =
    step (first ds (code s).0 b c) (subst (λ (o : Option one.Decision). Follows es c o (first ds (code s).0 b c)) (carries s hs b hb) (follows s b c hs hb hc))
  where
    t : ℕ
    t = a.next s b

    step : (x : Option Decision) → Follows es c (Some (code (a.next s b), a.class (a.next s b))) x → RightStep a code s b c x
    step x f = go f refl
      where
        go : {o : Option one.Decision} {y : Option Decision} → Follows es c o y → o ≡ Some (code (a.next s b), a.class (a.next s b)) → RightStep a code s b c y
        go nothing is = let z : ◌≡◌ {A = ℕ} 0 1 = cc in absurd (omega arith)
        go (by_one d) is =
            let e : ◌≡◌ {A = one.Decision} d (code (a.next s b), a.class (a.next s b)) = cc in
            (ap (λ (x : one.Decision). x.0) e, ap (λ (x : one.Decision). x.1) e, tt)
        go (by_two d e quiet then) is =
            let f : ◌≡◌ {A = one.Decision} d (code (a.next s b), a.class (a.next s b)) = cc in
            let here : one.first es (code (a.next s b)).0 c ≡ Some e = ap (λ (x : one.Decision). one.first es x.0.0 c) (sym f) ∙ then in
            let right = carries (a.next s b) (below s b hs hb) c hc in
            let g : ◌≡◌ {A = one.Decision} e (code (a.next (a.next s b) c), a.class (a.next (a.next s b) c)) = cc in
            (ap (λ (x : one.Decision). x.0) g, ap (λ (x : one.Decision). x.1) g, ap (λ (x : one.Decision). x.1) (sym f) ∙ quiet)

-- ---- entries that take one byte

and_true : (x : Bool) → x && true ≡ x
and_true true = refl
and_true false = refl

and_zero : (n : ℕ) → bit_and n 0 ≡ 0
and_zero n = and_zero_r n

single_matches : (e : Entry) (k b c : ℕ) → matches (single e) k b c ≡ one.matches e k b
single_matches e k b c = ap (λ t. one.matches e k b && t) (eq-eqb (bit_and c 0) 0 (and_zero c)) ∙ and_true (one.matches e k b)

-- they decide as the one-byte entries do
pub singles : (whole es : List Entry) (k b c : ℕ) → Follows whole c (one.first es k b) (first (map single es) k b c)
singles whole [] k b c = nothing
singles whole (e ∷ es) k b c =
    subst (λ m. Follows whole c (one.pick (one.matches e k b) e (one.first es k b)) (pick m (single e) (first (map single es) k b c))) (sym (single_matches e k b c))
    (go (one.matches e k b) (singles whole es k b c))
  where
    go : (m : Bool) → Follows whole c (one.first es k b) (first (map single es) k b c) → Follows whole c (one.pick m e (one.first es k b)) (pick m (single e) (first (map single es) k b c))
    go true f = by_one (e.next, e.class)
    go false f = f

-- ---- a closing entry that is unrolled

module _ (a : Dfa) (r : ℕ) where
  f : Forest
  f = forest_of a

  abbrev last : Entry
  last = entry_for a r (closing_word r)

  -- the code stands under the shadow of the root
  abbrev hit : ℕ → Bool
  hit k = eqb (bit_and k (mask (forest_of a) r)) (bit_and (code (forest_of a) r) (mask (forest_of a) r))

  last_matches : (k b : ℕ) → one.matches last k b ≡ hit k
  last_matches k b = ap (λ t. hit k && t) (eq-eqb (bit_and b 0) 0 (and_zero b)) ∙ and_true (hit k)

  -- what two bytes come to
  abbrev two_on : Option ℕ → Option Decision
  two_on None = None
  two_on (Some t) = Some (code_of a t, a.class t, Two)

  abbrev second : PrefixWord StateNo → ℕ → Bool
  second w c = eqb (bit_and c (byte_word w).mask) (bit_and (byte_word w).value (byte_word w).mask)

  double_matches : (w : PrefixWord StateNo) (k b c : ℕ) → matches (double last (entry_for a r w)) k b c ≡ hit k && second w c
  double_matches w k b c = ap (λ t. t && second w c) (last_matches k b)

  pick_two : (m : Bool) (w : PrefixWord StateNo) (o : Option ℕ) → pick m (double last (entry_for a r w)) (two_on o) ≡ two_on (cond m (Some w.next.0) o)
  pick_two true w o = refl
  pick_two false w o = refl

  -- under the shadow the words decide for the second byte
  doubles-hit : (ws : List (PrefixWord StateNo)) (k b c : ℕ) → hit k ≡ true → first (map (double last) (map (entry_for a r) ws)) k b c ≡ two_on (first_word (map byte_word ws) c)
  doubles-hit [] k b c h = refl
  doubles-hit (w ∷ ws) k b c h =
      (λ i. pick ((double_matches w k b c ∙ ap (λ t. t && second w c) h) i) (double last (entry_for a r w)) (doubles-hit ws k b c h i))
      ∙ pick_two (second w c) w (first_word (map byte_word ws) c)

  -- elsewhere nothing does
  doubles-miss : (ws : List (PrefixWord StateNo)) (k b c : ℕ) → hit k ≡ false → first (map (double last) (map (entry_for a r) ws)) k b c ≡ None
  doubles-miss [] k b c h = refl
  doubles-miss (w ∷ ws) k b c h =
      (λ i. pick ((double_matches w k b c ∙ ap (λ t. t && second w c) h) i) (double last (entry_for a r w)) (doubles-miss ws k b c h i))

-- all but the last of a list that ends so
pub but_last : {X : Type 0} (xs : List X) (y : X) → all_but_last (xs ++ y ∷ []) ≡ xs
but_last [] y = refl
but_last (x ∷ []) y = refl
but_last (x ∷ z ∷ xs) y = ap (λ l. x ∷ l) (but_last (z ∷ xs) y)

module _ (a : Dfa) (p : Choice) (chosen : Chosen a p) where
  abbrev whole : List Entry
  whole = table_over a p.lists

  inside : (s : ℕ) → s < (forest_of a).states → s < a.states
  inside s h = subst (λ n. s < n) (forest_stands a).states h

  outside : (s : ℕ) → s < a.states → s < (forest_of a).states
  outside s h = subst (λ n. s < n) (sym (forest_stands a).states) h

  -- the one-byte table carries the automaton
  pub one_carries : table.Carries a (code_of a) (table_over a p.lists)
  one_carries s h b k = automaton_stands a (λ u. map byte_word (p.lists u)) (words_rule a p.lists chosen.shortest) s b (outside s h) k

  -- the words of a root decide every byte
  root_decides : (r c : ℕ) → r < a.states → c < 256 → (forest_of a).parent r ≡ None → first_word (map byte_word (p.lists r)) c ≡ Some (a.next r c)
  root_decides r c h k none = go (first_word (map byte_word (p.lists r)) c) (words_rule a p.lists chosen.shortest r c (outside r h) k)
    where
      go : (o : Option ℕ) → Gives a (forest_of a) r c o → o ≡ Some (a.next r c)
      go None g = absurd (subst (λ (q : Option ℕ). Deferrable a q r c) none g)
      go (Some t) g = ap (λ n. Some n) g

  -- the closing entry of an unrolled root
  opened_last : (r : ℕ) → r < a.states → IsQuietRoot a r → (k b c : ℕ) → c < 256
      → Follows (table_over a p.lists) c (one.first (entry_for a r (closing_word r) ∷ []) k b) (first (unrolled (entry_for a r (closing_word r)) (own a p r)) k b c)
  opened_last r h quiet k b c hc = go (hit a r k) refl
    where
      go : (x : Bool) → hit a r k ≡ x → Follows (table_over a p.lists) c (one.first (entry_for a r (closing_word r) ∷ []) k b) (first (unrolled (entry_for a r (closing_word r)) (own a p r)) k b c)
      go true is =
          let d = doubles-hit a r (p.lists r) k b c is ∙ ap (two_on a r) (root_decides r c h hc quiet.0) in
          let o : one.first (entry_for a r (closing_word r) ∷ []) k b ≡ Some (code_of a r, a.class r) = ap (λ m. one.pick m (entry_for a r (closing_word r)) None) (last_matches a r k b ∙ is) in
          subst (λ (y : Option Decision). Follows (table_over a p.lists) c (one.first (entry_for a r (closing_word r) ∷ []) k b) y) (sym d)
          (subst (λ (x : Option one.Decision). Follows (table_over a p.lists) c x (Some (code_of a (a.next r c), a.class (a.next r c), Two))) (sym o)
          (by_two (code_of a r, a.class r) (code_of a (a.next r c), a.class (a.next r c)) quiet.1 (one_carries r h c hc)))
      go false is =
          let d = doubles-miss a r (p.lists r) k b c is in
          let o : one.first (entry_for a r (closing_word r) ∷ []) k b ≡ None = ap (λ m. one.pick m (entry_for a r (closing_word r)) None) (last_matches a r k b ∙ is) in
          subst (λ (y : Option Decision). Follows (table_over a p.lists) c (one.first (entry_for a r (closing_word r) ∷ []) k b) y) (sym d)
          (subst (λ (x : Option one.Decision). Follows (table_over a p.lists) c x None) (sym o) nothing)

  -- the block of a state
  block_follows : (s : ℕ) → s < (forest_of a).states → (k b c : ℕ) → c < 256
      → Follows (table_over a p.lists) c (one.first (block a (forest_of a) (λ u. map byte_word (p.lists u)) s) k b) (first (pair_block a p s) k b c)
  block_follows s h k b c hc =
      subst (λ (es : List Entry). Follows (table_over a p.lists) c (one.first es k b) (first (pair_block a p s) k b c)) (sym (block_entries a s (p.lists s))) (go (p.opened s) refl)
    where
      go : (x : Bool) → p.opened s ≡ x → Follows (table_over a p.lists) c (one.first (own a p s) k b)
          (first (cond x (map single (all_but_last (own a p s)) ++ unrolled (entry_for a s (closing_word s)) (own a p s)) (map single (own a p s))) k b c)
      go true is =
          let o = chosen.unrolls s (inside s h) is in
          let front = map (entry_for a s) o.1.front in
          let split : own a p s ≡ front ++ entry_for a s (closing_word s) ∷ [] = ap (map (entry_for a s)) o.1.whole ∙ map-append (entry_for a s) o.1.front (closing_word s ∷ []) in
          let but : all_but_last (own a p s) ≡ front = ap all_but_last split ∙ but_last front (entry_for a s (closing_word s)) in
          subst (λ (es : List Entry). Follows (table_over a p.lists) c (one.first (own a p s) k b) (first (map single es ++ unrolled (entry_for a s (closing_word s)) (own a p s)) k b c)) (sym but)
          (subst (λ (es : List Entry). Follows (table_over a p.lists) c (one.first es k b) (first (map single front ++ unrolled (entry_for a s (closing_word s)) (own a p s)) k b c)) (sym split)
          (follows-++ (table_over a p.lists) front (entry_for a s (closing_word s) ∷ []) (map single front) (unrolled (entry_for a s (closing_word s)) (own a p s)) k b c
          (singles (table_over a p.lists) front k b c) (opened_last s (inside s h) o.0 k b c hc)))
      go false is = singles (table_over a p.lists) (own a p s) k b c

  module _ (k b c : ℕ) (hc : c < 256) where
    turn_follows : (x : Bool) (s : ℕ) → s < (forest_of a).states
        → Follows (table_over a p.lists) c (one.first (cond x (block a (forest_of a) (λ u. map byte_word (p.lists u)) s) []) k b) (first (cond x (pair_block a p s) []) k b c)
    turn_follows true s h = block_follows s h k b c hc
    turn_follows false s h = nothing

    level_follows : (d n : ℕ) → n ≤ (forest_of a).states
        → Follows (table_over a p.lists) c (one.first (level a (forest_of a) (λ u. map byte_word (p.lists u)) d n) k b) (first (pair_level a p d n) k b c)
    level_follows d zero h = nothing
    level_follows d (suc n) h =
        follows-++ (table_over a p.lists) (level a (forest_of a) (λ u. map byte_word (p.lists u)) d n) (cond (eqb ((forest_of a).depth n) d) (block a (forest_of a) (λ u. map byte_word (p.lists u)) n) [])
        (pair_level a p d n) (cond (eqb ((forest_of a).depth n) d) (pair_block a p n) []) k b c
        (level_follows d n (omega arith)) (turn_follows (eqb ((forest_of a).depth n) d) n (omega arith))

    levels_follow : (d : ℕ)
        → Follows (table_over a p.lists) c (one.first (levels a (forest_of a) (λ u. map byte_word (p.lists u)) d) k b) (first (pair_levels a p d) k b c)
    levels_follow zero = nothing
    levels_follow (suc d) =
        follows-++ (table_over a p.lists) (level a (forest_of a) (λ u. map byte_word (p.lists u)) d (forest_of a).states) (levels a (forest_of a) (λ u. map byte_word (p.lists u)) d)
        (pair_level a p d (forest_of a).states) (pair_levels a p d) k b c
        (level_follows d (forest_of a).states (omega arith)) (levels_follow d)

  -- the table
  pub table_carries : ((s b : ℕ) → s < a.states → b < 256 → a.next s b < a.states) → pairs.Carries a (code_of a) (pair_table a p)
  table_carries below =
      follows_carries a (code_of a) (table_over a p.lists) (pair_table a p) one_carries
      (λ s b c hs hb hc. levels_follow (code_of a s).0 b c hc (height (forest_of a) (forest_of a).states)) below
