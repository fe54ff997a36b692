-- The table gives every state its right successor. Assumes nothing.
use Rattle.std.proofs.Common.{◌≡◌, ℕ, zero, suc, ◌<◌, Bool, true, false, cond, ◌&&◌, eqb, ◌⊎◌, List, [], ◌∷◌, map, Some, None, Option, sym, refl, ap, ◌∙◌, subst, ap₂, inl, inr, not-suc-le-zero, arith}
use lib.Bits.{bit_and}
use Rattle.std.proofs.lemmas.Bool.{eq-eqb, ne_eqb, cases_eq}
use Rattle.ternary.specs.declared.words.StateCode.{StateCode}
use Rattle.ternary.specs.Match.{pick, first}
use Rattle.std.specs.Option.{option_or}
use Rattle.ternary.proofs.FirstMatch.{first-++}
use Rattle.forest.specs.Words.{ByteWord}
use Rattle.automaton.specs.Runs.{Dfa}
use Rattle.forest.specs.Forest.{Forest, code, mask, Above, here, up}
use Rattle.forest.specs.Table.{first_word, Deferrable, Gives, ByteRule, decision, entry, block, level, levels, height}
use Rattle.forest.specs.Laws.{Shadows, Right}
use Rattle.forest.proofs.Formed.{WellFormed}
use Rattle.forest.proofs.Shadow.{cases_parent, child_rule, match_above, above_match, codes_differ, code_fits, above_depth, above_same_depth, above_states}

-- codes match their own shadows and those above
pub shadows_stand : (f : Forest) → WellFormed f → Shadows f
shadows_stand f wf = record { met = λ s t hs ht h. above_match f wf s t hs ht h; only = λ s t hs ht h. match_above f wf s t hs ht h; differ = codes_differ f wf; below = code_fits f wf }

-- the value of a shadow as an entry holds it: the code, cleared under the stars
abbrev shade : Forest → ℕ → ℕ
shade f s = bit_and (code f s) (mask f s)

-- it is the code itself
shade_code : (f : Forest) → WellFormed f → (s : ℕ) → s < f.states → shade f s ≡ code f s
shade_code f wf s hs = above_match f wf s s hs hs here

option_or_none : (o : Option (StateCode × ℕ)) → option_or o None ≡ o
option_or_none (Some d) = refl
option_or_none None = refl

module _ (a : Dfa) (f : Forest) where
  -- the answer for a successor, if there is one
  abbrev decided : Option ℕ → Option (StateCode × ℕ)
  decided None = None
  decided (Some t) = Some (decision a f t)

  -- a block behind a shadow that the code does not match gives nothing
  block_skip : (s c b : ℕ) (ws : List ByteWord) → eqb (bit_and c (mask f s)) (shade f s) ≡ false → first (map (entry a f s) ws) c b ≡ None
  block_skip s c b [] h = refl
  block_skip s c b (w ∷ ws) h =
      ap (λ (m : Bool). pick (m && eqb (bit_and b w.mask) (bit_and w.value w.mask)) (entry a f s w) (first (map (entry a f s) ws) c b)) h
      ∙ block_skip s c b ws h

  -- a block behind a shadow that the code matches gives what the words give
  pick_word : (x : Bool) (s : ℕ) (w : ByteWord) (o : Option ℕ) → pick x (entry a f s w) (decided o) ≡ decided (cond x (Some w.next) o)
  pick_word true s w o = refl
  pick_word false s w o = refl

  block-hit : (s c b : ℕ) (ws : List ByteWord) → eqb (bit_and c (mask f s)) (shade f s) ≡ true → first (map (entry a f s) ws) c b ≡ decided (first_word ws b)
  block-hit s c b [] h = refl
  block-hit s c b (w ∷ ws) h =
      ap₂ (λ (m : Bool) (o : Option (StateCode × ℕ)). pick (m && eqb (bit_and b w.mask) (bit_and w.value w.mask)) (entry a f s w) o) h (block-hit s c b ws h)
      ∙ pick_word (eqb (bit_and b w.mask) (bit_and w.value w.mask)) s w (first_word ws b)

  module _ (words : ℕ → List ByteWord) where
    -- the block of the state n gives nothing at depth d, if the code does not match its shadow
    last_none : (d n c b : ℕ) → (f.depth n ≡ d → bit_and c (mask f n) ≡ shade f n → ⊥) → first (cond (eqb (f.depth n) d) (block a f words n) []) c b ≡ None
    last_none d n c b h = elim (cases_eq (f.depth n) d) [
      | inl e ↦ ap (λ (x : Bool). first (cond x (block a f words n) []) c b) (eq-eqb (f.depth n) d e) ∙ block_skip n c b (words n) (ne_eqb (bit_and c (mask f n)) (shade f n) (h e))
      | inr ne ↦ ap (λ (x : Bool). first (cond x (block a f words n) []) c b) (ne_eqb (f.depth n) d ne)
    ]

    -- the states below n at depth d have no shadow that the code matches
    level_none : (d n c b : ℕ) → ((u : ℕ) → u < n → f.depth u ≡ d → bit_and c (mask f u) ≡ shade f u → ⊥) → first (level a f words d n) c b ≡ None
    level_none d zero c b h = refl
    level_none d (suc n) c b h =
        first-++ (level a f words d n) (cond (eqb (f.depth n) d) (block a f words n) []) c b
        ∙ ap₂ option_or (level_none d n c b (λ u hu. h u (omega arith))) (last_none d n c b (λ e k. h n (omega arith) e k))

    -- just one state t of them has such a shadow: its words give the answer
    level-hit : (d n c b t : ℕ) → t < n → f.depth t ≡ d → bit_and c (mask f t) ≡ shade f t →
        ((u : ℕ) → u < n → f.depth u ≡ d → bit_and c (mask f u) ≡ shade f u → u ≡ t) → first (level a f words d n) c b ≡ decided (first_word (words t) b)
    level-hit d zero c b t ht hd k h = absurd (not-suc-le-zero ht)
    level-hit d (suc n) c b t ht hd k h = elim (cases_eq t n) [
      | inl e ↦
          first-++ (level a f words d n) (cond (eqb (f.depth n) d) (block a f words n) []) c b
          ∙ ap₂ option_or
          (level_none d n c b (λ u hu eu ku. let z : u ≡ t = h u (omega arith) eu ku in omega arith))
          (subst (λ (m : ℕ). first (cond (eqb (f.depth m) d) (block a f words m) []) c b ≡ decided (first_word (words t) b)) e
          (ap (λ (x : Bool). first (cond x (block a f words t) []) c b) (eq-eqb (f.depth t) d hd) ∙ block-hit t c b (words t) (eq-eqb (bit_and c (mask f t)) (shade f t) k)))
      | inr ne ↦
          first-++ (level a f words d n) (cond (eqb (f.depth n) d) (block a f words n) []) c b
          ∙ ap₂ option_or
          (level-hit d n c b t (omega arith) hd k (λ u hu. h u (omega arith)))
          (last_none d n c b (λ e kn. ne (sym (h n (omega arith) e kn))))
          ∙ option_or_none (decided (first_word (words t) b))
    ]

  -- by the byte rule a state's words, and behind them the table of its parent, give the successor
  by_rule : (s b : ℕ) (rest : Option (StateCode × ℕ)) (o : Option ℕ) → Gives a f s b o →
      ((p : ℕ) → f.parent s ≡ Some p → rest ≡ Some (decision a f (a.next p b))) → option_or (decided o) rest ≡ Some (decision a f (a.next s b))
  by_rule s b rest (Some t) g later = ap (λ (n : ℕ). Some (decision a f n)) g
  by_rule s b rest None g later = elim (cases_parent (f.parent s)) [
    | inl e ↦ absurd (subst (λ (o : Option ℕ). Deferrable a o s b) e g)
    | inr (p, e) ↦
        let same : a.next s b ≡ a.next p b = subst (λ (o : Option ℕ). Deferrable a o s b) e g in
        later p e ∙ ap (λ (n : ℕ). Some (decision a f n)) (sym same)
  ]

-- deferment goes on from state to state
above_trans : (f : Forest) (u t s : ℕ) → Above f u t → Above f t s → Above f u s
above_trans f u t s h here = h
above_trans f u t s h (up e g) = up e (above_trans f u t _ h g)

some_same : {p q : ℕ} → ◌≡◌ {A = Option ℕ} (Some p) (Some q) → p ≡ q
some_same e = cc

-- what stands above t is t, or stands above its parent
above_parent : (f : Forest) (u t p : ℕ) → f.parent t ≡ Some p → Above f u t → (u ≡ t) ⊎ Above f u p
above_parent f u t p e here = inl refl
above_parent f u t p e (up {p = q} k h) = inr (subst (λ (n : ℕ). Above f u n) (some_same (sym k ∙ e)) h)

module _ (a : Dfa) (f : Forest) (words : ℕ → List ByteWord) (wf : WellFormed f) (rule : ByteRule a f words) (s b : ℕ) (hs : s < f.states) (hb : b < 256) where
  -- in the levels below d the search ends at t, if t stands above s with the same successor and no state between matches
  search_from : (d t : ℕ) → Above f t s → f.depth t < d →
      ((u : ℕ) → u < f.states → f.depth u < d → bit_and (code f s) (mask f u) ≡ shade f u → Above f u t) →
      first (levels a f words d) (code f s) b ≡ Some (decision a f (a.next t b))
  search_from zero t h hd only = absurd (not-suc-le-zero hd)
  search_from (suc d) t h hd only =
      let ht : t < f.states = above_states f wf t s hs h in
      let c = code f s in
      elim (cases_eq (f.depth t) d) [
        | inl e ↦
            first-++ (level a f words d f.states) (levels a f words d) c b
            ∙ ap (λ (o : Option (StateCode × ℕ)). option_or o (first (levels a f words d) c b))
            (level-hit a f words d f.states c b t ht e (above_match f wf t s ht hs h ∙ sym (shade_code f wf t ht))
            (λ u hu eu ku. above_same_depth f wf u t ht (only u hu (omega arith) ku) (omega arith)))
            ∙ by_rule a f t b (first (levels a f words d) c b) (first_word (words t) b) (rule t b ht hb)
            (λ p ep. let r = child_rule f wf t p ht ep in
            search_from d p (above_trans f p t s (up ep here) h) (omega (arith, r.1))
            (λ u hu du ku. elim (above_parent f u t p ep (only u hu (omega arith) ku)) [
              | inl z ↦ absurd (omega (arith, ap (λ (n : ℕ). f.depth n) z))
              | inr g ↦ g
            ]))
        | inr ne ↦
            first-++ (level a f words d f.states) (levels a f words d) c b
            ∙ ap (λ (o : Option (StateCode × ℕ)). option_or o (first (levels a f words d) c b))
            (level_none a f words d f.states c b
            (λ u hu eu ku. let k = above_depth f wf u t ht (only u hu (omega arith) ku) in omega (arith, k)))
            ∙ search_from d t h (omega arith) (λ u hu du ku. only u hu (omega arith) ku)
      ]

-- every depth is below the height
below_height : (f : Forest) (n s : ℕ) → s < n → f.depth s < height f n
below_height f zero s h = absurd (not-suc-le-zero h)
below_height f (suc n) s h = elim (cases_eq s n) [
  | inl e ↦ omega (arith, ap (λ (k : ℕ). f.depth k) e)
  | inr ne ↦ omega (arith, below_height f n s (omega arith))
]

pub table_stands : (a : Dfa) (f : Forest) (words : ℕ → List ByteWord) → WellFormed f → ByteRule a f words → Right a f words
table_stands a f words wf rule s b hs hb =
    search_from a f words wf rule s b hs hb (height f f.states) s here (below_height f f.states s hs)
    (λ u hu du ku. match_above f wf u s hu hs (ku ∙ shade_code f wf u hu))
