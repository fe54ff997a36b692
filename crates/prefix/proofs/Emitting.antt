-- The words of a prefix, by those of its two longer prefixes and the word that covers it. Assumes nothing.
use Rattle.std.proofs.Common.{◌≡◌, ℕ, zero, suc, ◌+◌, ◌-◌, ◌*◌, ◌<◌, ◌≤◌, Bool, true, false, ◌||◌, Some, None, Option, cond, eqb, List, [], ◌∷◌, ◌++◌, map, length, slice_get, sym, refl, ap, ◌∙◌, subst, append-nil, append_assoc, get_or, arith, length-append}
use Rattle.std.specs.Option.{option_or}
use Rattle.ternary.specs.declared.words.StateNo.{StateNo}
use Rattle.prefix.specs.declared.word.PrefixWord.{PrefixWord}
use Rattle.prefix.specs.declared.trees.Node.{Node}
use Rattle.prefix.specs.declared.trees.Halves.{Halves}
use Rattle.prefix.specs.declared.trees.Prefix.{Prefix}
use Rattle.prefix.specs.declared.trees.Row.{Row}
use Rattle.prefix.specs.declared.trees.Subtrees.{Subtrees}
use Rattle.prefix.specs.Tree.{Tree, here, leaf, node, has, best, halves, closed}
use Rattle.prefix.specs.Row.{build, placed}
use Rattle.prefix.specs.States.{state_no, flags}
use Rattle.prefix.specs.Listed.{numbered, stated, word_for, low_half, high_half, tree_at, marks, bare_under, cover, words_for, closing}
use Rattle.prefix.specs.Parts.{Inside}
use Rattle.prefix.specs.Subtrees.{Says, Stands, bare_in, covering_in}
use Rattle.prefix.proofs.Halves.{some_candidate}
use Rattle.prefix.proofs.Parts.{length_range, range_first}
use Rattle.prefix.proofs.Standing.{same_node, stands_says}
use Rattle.prefix.proofs.Placed.{map-append, placed-halves, placed-closed}
use Rattle.prefix.proofs.Prefixes.{subtree-halves}

marks_halved : (above : Option StateNo) (l r : Tree ℕ) → marks above (node l r)
    ≡ cond (bare_under above (node l r)) (halves (marks above l) (marks above r))
    (closed (best eqb 0 (node l r)) (marks (Some (state_no (best eqb 0 (node l r)))) l) (marks (Some (state_no (best eqb 0 (node l r)))) r))
marks_halved None l r = refl
marks_halved (Some above) l r = refl

module _ (row : Row) (p : Prefix) (above : Option StateNo) where
  abbrev l : Tree ℕ
  l = tree_at row (low_half p)

  abbrev r : Tree ℕ
  r = tree_at row (high_half p)

  abbrev low_words : Option StateNo → List (PrefixWord ℕ)
  low_words next = placed 0 (p.bits + 1) (2 * p.value) (marks next l)

  abbrev high_words : Option StateNo → List (PrefixWord ℕ)
  high_words next = placed 0 (p.bits + 1) (2 * p.value + 1) (marks next r)

  -- the words of both longer prefixes, and then the word that covers them
  abbrev pub in_turn : Option StateNo → List (PrefixWord StateNo)
  in_turn c = (words_for row (low_half p) (option_or c above) ++ words_for row (high_half p) (option_or c above)) ++ closing p c

  halved : p.bits < 8 → (c : Option StateNo) → c ≡ cover above (node l r) → map stated (placed 0 p.bits p.value (marks above (node l r))) ≡ in_turn c
  halved h c = go (bare_under above (node l r)) (marks_halved above l r)
    where
      go : (b : Bool) → marks above (node l r) ≡ cond b (halves (marks above l) (marks above r)) (closed (best eqb 0 (node l r)) (marks (Some (state_no (best eqb 0 (node l r)))) l) (marks (Some (state_no (best eqb 0 (node l r)))) r))
          → c ≡ cond b None (Some (state_no (best eqb 0 (node l r)))) → map stated (placed 0 p.bits p.value (marks above (node l r))) ≡ in_turn c
      go true m e =
          ap (λ ms. map stated (placed 0 p.bits p.value ms)) m
          ∙ (ap (λ ws. map stated ws) (placed-halves p.bits p.value (marks above l) (marks above r) h)
          ∙ (map-append stated (low_words above) (high_words above)
          ∙ (sym (append-nil (map stated (low_words above) ++ map stated (high_words above)))
          ∙ ap in_turn (sym e))))
      go false m e =
          let b = best eqb 0 (node l r) in
          let s = Some (state_no b) in
          ap (λ ms. map stated (placed 0 p.bits p.value ms)) m
          ∙ (ap (λ ws. map stated ws) (placed-closed p.bits p.value b (marks s l) (marks s r) h)
          ∙ (map-append stated (low_words s ++ high_words s) (record { bits = p.bits; value = p.value; next = b } ∷ [])
          ∙ (ap (λ ws. ws ++ word_for p (state_no b) ∷ []) (map-append stated (low_words s) (high_words s))
          ∙ ap in_turn (sym e))))

  pub words_halved : p.bits < 8 → (c : Option StateNo) → c ≡ cover above (tree_at row p) → words_for row p above ≡ in_turn c
  words_halved h c =
      subst (λ (t : Tree ℕ). c ≡ cover above t → map stated (placed 0 p.bits p.value (marks above t)) ≡ in_turn c) (sym (subtree-halves (numbered row.successors.now) (flags row.deferrable.now) p.bits p.value h)) (halved h c)

marks_byte : (above : Option StateNo) (f : ℕ) (d : Bool) → marks above (leaf f d) ≡ cond (bare_under above (leaf f d)) [] (here f ∷ [])
marks_byte None f d = refl
marks_byte (Some above) f d = go (eqb above.0 f)
  where
    go : (b : Bool) → cond b [] (here f ∷ []) ≡ cond (b || false) [] (here f ∷ [])
    go true = refl
    go false = refl

-- the words of one byte
byte_words : (bits v f : ℕ) (d : Bool) (above : Option StateNo) → bits ≤ 8 → map stated (placed 0 bits v (marks above (leaf f d))) ≡ closing (record { bits = bits; value = v }) (cover above (leaf f d))
byte_words bits v f d above h = ap (λ ms. map stated (placed 0 bits v ms)) (marks_byte above f d) ∙ go (bare_under above (leaf f d))
  where
    go : (b : Bool) → map stated (placed 0 bits v (cond b [] (here f ∷ []))) ≡ closing (record { bits = bits; value = v }) (cond b None (Some (state_no f)))
    go true = refl
    go false = let k : 8 - (8 - bits) ≡ bits = omega arith in ap {B = List (PrefixWord StateNo)} (λ n. record { bits = n; value = v; next = state_no f } ∷ []) k

byte_tree : (row : Row) (p : Prefix) → p.bits ≡ 8 → tree_at row p ≡ leaf (numbered row.successors.now p.value) (flags row.deferrable.now p.value)
byte_tree row p e = let k : 8 - p.bits ≡ 0 = omega arith in ap (λ n. build (numbered row.successors.now) (flags row.deferrable.now) n p.value) k

pub words_byte : (row : Row) (p : Prefix) (above : Option StateNo) → p.bits ≡ 8 → (c : Option StateNo) → c ≡ cover above (leaf (numbered row.successors.now p.value) (flags row.deferrable.now p.value)) → words_for row p above ≡ closing p c
words_byte row p above e c same =
    ap (λ (t : Tree ℕ). map stated (placed 0 p.bits p.value (marks above t))) (byte_tree row p e)
    ∙ (byte_words p.bits p.value (numbered row.successors.now p.value) (flags row.deferrable.now p.value) above (omega arith) ∙ ap (closing p) (sym same))

-- the halves of a node that stands for the tree of a prefix
pub record Opened (row : Row) (p : Prefix) (nodes : List Node) (states : List ℕ) (h : Halves) : Type 0 where
  pub longer : p.bits < 8
  pub low : Stands nodes states h.low (tree_at row (low_half p))
  pub high : Stands nodes states h.high (tree_at row (high_half p))

module _ (row : Row) (p : Prefix) (nodes : List Node) (states : List ℕ) (i : ℕ) (n : Node) (at : slice_get nodes i ≡ Some n) where
  abbrev tree : ℕ → ℕ → Tree ℕ
  tree = build (numbered row.successors.now) (flags row.deferrable.now)

  opened_at : (k : ℕ) → 8 - p.bits ≡ k → Stands nodes states i (tree k p.value) → (h : Halves) → n.halves ≡ Some h → Opened row p nodes states h
  opened_at zero e s h f = let g : Some h ≡ None = cc (same_node nodes i n s.0 at s.1, s.3, f) in cc
  opened_at (suc k) e s h f =
      let g : s.1 ≡ h = cc (same_node nodes i n s.0 at s.2, s.4, f) in
      let d : k ≡ 8 - (p.bits + 1) = omega arith in
      record {
        longer = omega arith;
        low = subst (λ (q : Halves). Stands nodes states q.low (tree_at row (low_half p))) g (subst (λ m. Stands nodes states s.1.low (tree m (2 * p.value))) d s.5);
        high = subst (λ (q : Halves). Stands nodes states q.high (tree_at row (high_half p))) g (subst (λ m. Stands nodes states s.1.high (tree m (2 * p.value + 1))) d s.6);
      }

  byte_at : (k : ℕ) → 8 - p.bits ≡ k → Stands nodes states i (tree k p.value) → p.bits ≤ 8 → n.halves ≡ None → p.bits ≡ 8
  byte_at zero e s h f = omega arith
  byte_at (suc k) e s h f = let g : Some s.1 ≡ None = cc (same_node nodes i n s.0 at s.2, s.4, f) in cc

  module _ (s : Stands nodes states i (tree_at row p)) where
    pub opened : (h : Halves) → n.halves ≡ Some h → Opened row p nodes states h
    opened = opened_at (8 - p.bits) refl s

    pub byte_alone : p.bits ≤ 8 → n.halves ≡ None → p.bits ≡ 8
    byte_alone = byte_at (8 - p.bits) refl s

    says : Says states n (tree_at row p)
    says = stands_says nodes states i (tree_at row p) n at s

    pub some_candidates : (n.candidates.first < n.candidates.end) × Inside (length states) n.candidates
    some_candidates =
        omega (arith, says.inside, length_range states n.candidates.first n.candidates.end says.inside.1, ap length says.candidates_are, some_candidate eqb (tree_at row p))

    bare_is : (above : Option StateNo) → bare_in states n above ≡ bare_under above (tree_at row p)
    bare_is None = says.bare_is
    bare_is (Some above) = ap (λ xs. has eqb above.0 xs) says.candidates_are

    best_is : get_or states n.candidates.first 0 ≡ best eqb 0 (tree_at row p)
    best_is = range_first states n.candidates.first n.candidates.end 0 some_candidates.0 ∙ ap (λ xs. get_or xs 0 0) says.candidates_are

    pub covering_is : (above : Option StateNo) (xs : List ℕ) → xs ≡ states → (c : Option StateNo) → c ≡ covering_in xs n above → c ≡ cover above (tree_at row p)
    covering_is above xs e c f =
        f ∙ (ap (λ ys. covering_in ys n above) e
        ∙ (ap (λ b. cond b None (Some (state_no (get_or states n.candidates.first 0)))) (bare_is above)
        ∙ ap (λ m. cond (bare_under above (tree_at row p)) None (Some (state_no m))) best_is))

-- the words of both halves and of the word that covers them, one after another
pub record Turn (row : Row) (p : Prefix) (above : Option StateNo) (w : Subtrees) (h : Halves) (c : Option StateNo) (lower upper : Prefix) (below : Option StateNo) : Type 0 where
  pub longer : p.bits < 8
  pub low : Stands w.nodes.items w.candidates.items h.low (tree_at row lower)
  pub high : Stands w.nodes.items w.candidates.items h.high (tree_at row upper)
  pub words : words_for row p above ≡ (words_for row lower below ++ words_for row upper below) ++ closing p c
  pub long : length (words_for row p above) ≡ length (words_for row lower below) + length (words_for row upper below) + length (closing p c)

module _ (w : Subtrees) (p : Prefix) (above : Option StateNo) (i : ℕ) (n : Node) (at : slice_get w.nodes.items i ≡ Some n) (s : Stands w.nodes.items w.candidates.items i (tree_at w.row p)) (h : Halves) (is : n.halves ≡ Some h)
    (c : Option StateNo) (cover_is : c ≡ cover above (tree_at w.row p)) (lower upper : Prefix) (is_low : lower ≡ low_half p) (is_high : upper ≡ high_half p) (below : Option StateNo) (is_below : below ≡ option_or c above) where
  both : Opened w.row p w.nodes.items w.candidates.items h
  both = opened w.row p w.nodes.items w.candidates.items i n at s h is

  in_order : words_for w.row p above ≡ (words_for w.row lower below ++ words_for w.row upper below) ++ closing p c
  in_order = words_halved w.row p above both.longer c cover_is ∙ rw (is_low, is_high, is_below) refl

  pub turn : Turn w.row p above w h c lower upper below
  turn = record {
    longer = both.longer;
    low = subst (λ q. Stands w.nodes.items w.candidates.items h.low (tree_at w.row q)) (sym is_low) both.low;
    high = subst (λ q. Stands w.nodes.items w.candidates.items h.high (tree_at w.row q)) (sym is_high) both.high;
    words = in_order;
    long = ap length in_order ∙ simp length-append refl;
  }

pub appended_in_turn : {X : Type 0} (before one two all xs ys zs : List X) → all ≡ (xs ++ ys) ++ zs → one ≡ before ++ xs → two ≡ one ++ ys → two ++ zs ≡ before ++ all
appended_in_turn before one two all xs ys zs e f g = rw (g, f, e) (simp append_assoc)
