-- Nodes that stand for trees, in a list of nodes that grows. Assumes nothing.
use Rattle.std.proofs.Common.{◌≡◌, ℕ, zero, suc, ◌+◌, ◌-◌, ◌*◌, ◌^◌, ◌<◌, ◌≤◌, Bool, Some, eqb, List, [], ◌∷◌, ◌++◌, length, slice_get, sym, refl, ap, ◌∙◌, subst, append_assoc, arith, length-append}
use Rattle.std.proofs.lemmas.Option.{slice_get_within, slice_get-get_or, get_or_from_slice_get}
use Rattle.std.proofs.lemmas.List.{get_or_append_left}
use Rattle.std.proofs.Math.Seq.{get_or-append_seam}
use Rattle.prefix.specs.declared.trees.Node.{Node}
use Rattle.prefix.specs.declared.trees.Prefix.{Prefix}
use Rattle.prefix.specs.declared.trees.Row.{Row}
use Rattle.prefix.specs.declared.trees.Subtrees.{Subtrees}
use Rattle.prefix.specs.Tree.{Tree, leaf, node, common, either, base, candidates}
use Rattle.prefix.specs.Row.{build}
use Rattle.prefix.specs.States.{flags}
use Rattle.prefix.specs.Listed.{numbered, tree_at, low_half, high_half}
use Rattle.prefix.specs.Parts.{Inside}
use Rattle.prefix.specs.Subtrees.{Says, Joined, Stands, Added, merged, nodes_in, states_in, room}
use Rattle.prefix.proofs.Bytes.{double}
use Rattle.prefix.proofs.Parts.{length_range, range_kept, range_last, common≤}
use Rattle.prefix.proofs.Prefixes.{subtree-halves, longer, small}

pub slice_get_more : {X : Type 0} (xs ys : List X) (i : ℕ) (x : X) → slice_get xs i ≡ Some x → slice_get (xs ++ ys) i ≡ Some x
slice_get_more xs ys i x e =
    let h = slice_get_within xs i x e in
    slice_get-get_or (xs ++ ys) i x (omega (arith, h, length-append xs ys)) ∙ ap Some (get_or_append_left xs ys x i h ∙ get_or_from_slice_get xs i x x e)

slice_get_last : {X : Type 0} (xs : List X) (x : X) (m : ℕ) → m ≡ length xs → slice_get (xs ++ x ∷ []) m ≡ Some x
slice_get_last xs x m e =
    ap (slice_get (xs ++ x ∷ [])) e ∙ (slice_get-get_or (xs ++ x ∷ []) (length xs) x (omega (arith, length-append xs (x ∷ []))) ∙ ap Some (get_or-append_seam xs x [] x))

-- three lists, appended one after another
appended : {X : Type 0} (one two three four xs ys zs : List X) → two ≡ one ++ xs → three ≡ two ++ ys → four ≡ three ++ zs → four ≡ one ++ (xs ++ (ys ++ zs))
appended one two three four xs ys zs e f g = rw (g, f, e) (simp append_assoc)

pub says_more : (states more : List ℕ) (n : Node) (t : Tree ℕ) → Says states n t → Says (states ++ more) n t
says_more states more n t s = record {
  base_is = s.base_is;
  least_is = s.least_is;
  bare_is = s.bare_is;
  inside = omega (arith, s.inside, length-append states more);
  candidates_are = range_kept states more n.candidates.first n.candidates.end s.inside.0 s.inside.1 ∙ s.candidates_are;
}

pub stands_more : (nodes more : List Node) (states others : List ℕ) (i : ℕ) (t : Tree ℕ) → Stands nodes states i t → Stands (nodes ++ more) (states ++ others) i t
stands_more nodes more states others i (leaf f d) s = (s.0, slice_get_more nodes more i s.0 s.1, says_more states others s.0 (leaf f d) s.2, s.3)
stands_more nodes more states others i (node l r) s =
    (s.0, s.1, slice_get_more nodes more i s.0 s.2, says_more states others s.0 (node l r) s.3, s.4, stands_more nodes more states others s.1.low l s.5, stands_more nodes more states others s.1.high r s.6)

pub stands_grown : (nodes nodes' more : List Node) (states states' others : List ℕ) (i : ℕ) (t : Tree ℕ) → nodes' ≡ nodes ++ more → states' ≡ states ++ others → Stands nodes states i t → Stands nodes' states' i t
stands_grown nodes nodes' more states states' others i t e f s =
    subst (λ ns. Stands ns states' i t) (sym e) (subst (λ xs. Stands (nodes ++ more) xs i t) (sym f) (stands_more nodes more states others i t s))

-- the node that stands for a tree
pub stands_below : (nodes : List Node) (states : List ℕ) (i : ℕ) (t : Tree ℕ) → Stands nodes states i t → i < length nodes
stands_below nodes states i (leaf f d) s = slice_get_within nodes i s.0 s.1
stands_below nodes states i (node l r) s = slice_get_within nodes i s.0 s.2

pub same_node : (nodes : List Node) (i : ℕ) (n m : Node) → slice_get nodes i ≡ Some n → slice_get nodes i ≡ Some m → n ≡ m
same_node nodes i n m e f = cc

pub stands_says : (nodes : List Node) (states : List ℕ) (i : ℕ) (t : Tree ℕ) (n : Node) → slice_get nodes i ≡ Some n → Stands nodes states i t → Says states n t
stands_says nodes states i (leaf f d) n e s = subst (λ m. Says states m (leaf f d)) (same_node nodes i s.0 n s.1 e) s.2
stands_says nodes states i (node l r) n e s = subst (λ m. Says states m (node l r)) (same_node nodes i s.0 n s.2 e) s.3

-- the node of a whole from those of its halves
pub says_joined : (before after : List ℕ) (low high n : Node) (l r : Tree ℕ) → Says before low l → Says before high r → Joined before after low high n → Says after n (node l r)
says_joined before after low high n l r p q j =
    let merged_are : merged before low high ≡ candidates eqb (node l r) = rw (p.candidates_are, q.candidates_are) refl in
    let base_is : n.base ≡ base eqb (node l r) = rw (p.base_is, q.base_is, p.candidates_are, q.candidates_are) at j.base_is in
    record {
      base_is = base_is;
      least_is = rw (p.least_is, q.least_is, base_is) at j.least_is;
      bare_is = rw (p.least_is, q.least_is, base_is) at j.bare_is;
      inside = omega (arith, j.first_is, j.end_is, ap length j.stored, length-append before (merged before low high));
      candidates_are =
          rw (j.first_is, j.end_is, j.stored) (range_last before (merged before low high) ∙ merged_are);
    }

-- how many nodes and candidates the tree of a prefix has
either≤ : (zs xs ys : List ℕ) → length zs ≤ length xs → length (either zs xs ys) ≤ length xs + length ys
either≤ [] xs ys h = omega (arith, length-append xs ys)
either≤ (z ∷ zs) xs ys h = omega arith

module _ (row : ℕ → ℕ) (deferrable : ℕ → Bool) where
  candidates≤ : (h v : ℕ) → length (candidates eqb (build row deferrable h v)) ≤ 2 ^ h
  candidates≤ zero v = omega arith
  candidates≤ (suc h) v =
      let xs = candidates eqb (build row deferrable h (2 * v)) in
      let ys = candidates eqb (build row deferrable h (2 * v + 1)) in
      omega (arith, double h, candidates≤ h (2 * v), candidates≤ h (2 * v + 1), either≤ (common eqb xs ys) xs ys (common≤ xs ys))

  nodes_are : (h v : ℕ) → nodes_in (build row deferrable h v) + 1 ≡ 2 * 2 ^ h
  nodes_are zero v = refl
  nodes_are (suc h) v = omega (arith, double h, nodes_are h (2 * v), nodes_are h (2 * v + 1))

  states≤ : (h v : ℕ) → states_in (build row deferrable h v) ≤ room h
  states≤ zero v = omega arith
  states≤ (suc h) v = omega (arith, states≤ h (2 * v), states≤ h (2 * v + 1), candidates≤ (suc h) v)

-- the room of a prefix against that of its two longer ones
pub room_step : (bits : ℕ) → bits < 8 → (2 ^ (8 - bits) ≡ 2 * 2 ^ (8 - (bits + 1))) × (room (8 - bits) ≡ 2 * room (8 - (bits + 1)) + 2 ^ (8 - bits))
room_step bits h =
    let e : 8 - bits ≡ suc (8 - (bits + 1)) = omega arith in
    let p : 2 ^ (8 - bits) ≡ 2 * 2 ^ (8 - (bits + 1)) = ap (λ n. 2 ^ n) e ∙ omega (arith, double (8 - (bits + 1))) in
    (p, ap room e ∙ omega (arith, p, ap (λ n. 2 ^ n) e))

-- a prefix that is one bit longer
pub low_fits : (p q : Prefix) → q ≡ low_half p → p.value < 2 ^ p.bits → (q.bits ≡ p.bits + 1) × (q.value < 2 ^ q.bits)
low_fits p q e h = subst (λ (x : Prefix). (x.bits ≡ p.bits + 1) × (x.value < 2 ^ x.bits)) (sym e) (refl, (longer p.bits p.value h).0)

pub high_fits : (p q : Prefix) → q ≡ high_half p → p.value < 2 ^ p.bits → (q.bits ≡ p.bits + 1) × (q.value < 2 ^ q.bits)
high_fits p q e h = subst (λ (x : Prefix). (x.bits ≡ p.bits + 1) × (x.value < 2 ^ x.bits)) (sym e) (refl, (longer p.bits p.value h).1)

-- the low half of a prefix is added
module _ (p : Prefix) (h : p.bits < 8) (w0 w1 : Subtrees) (i : ℕ) (lower : Prefix) (is_low : lower ≡ low_half p) (a : Added w0 w1 i (tree_at w0.row lower)) where
  pub low_added : Added w0 w1 i (tree_at w0.row (low_half p))
  low_added = subst (λ q. Added w0 w1 i (tree_at w0.row q)) is_low a

  -- there is room for the high half
  pub high_room : (length w1.nodes.items + 2 ^ (8 - p.bits) ≤ length w0.nodes.items + 2 * 2 ^ (8 - p.bits)) × (length w1.candidates.items + room (8 - (p.bits + 1)) ≤ length w0.candidates.items + room (8 - p.bits))
  high_room =
      omega (
        arith,
        room_step p.bits h,
        low_added.nodes_counted,
        low_added.states_counted,
        nodes_are (numbered w0.row.successors.now) (flags w0.row.deferrable.now) (8 - (p.bits + 1)) (2 * p.value),
        states≤ (numbered w0.row.successors.now) (flags w0.row.deferrable.now) (8 - (p.bits + 1)) (2 * p.value),
      )

-- the two halves of a prefix are added, one after the other
module _ (p : Prefix) (h : p.bits < 8) (w0 w1 w2 : Subtrees) (i j : ℕ) (lower upper : Prefix) (is_low : lower ≡ low_half p) (is_high : upper ≡ high_half p)
    (a : Added w0 w1 i (tree_at w0.row lower)) (b : Added w1 w2 j (tree_at w1.row upper)) where
  abbrev l : Tree ℕ
  l = tree_at w0.row (low_half p)

  abbrev r : Tree ℕ
  r = tree_at w0.row (high_half p)

  first_added : Added w0 w1 i l
  first_added = low_added p h w0 w1 i lower is_low a

  high_added : Added w1 w2 j r
  high_added = subst (λ q. Added w1 w2 j (tree_at w0.row q)) is_high (subst (λ (row : Row). Added w1 w2 j (tree_at row upper)) a.row_is b)

  low_stands : Stands w2.nodes.items w2.candidates.items i l
  low_stands = stands_grown w1.nodes.items w2.nodes.items b.more_nodes.0 w1.candidates.items w2.candidates.items b.more_states.0 i l b.more_nodes.1 b.more_states.1 first_added.stands

  high_stands : Stands w2.nodes.items w2.candidates.items j r
  high_stands = high_added.stands

  pub low_below : i < length w2.nodes.items
  low_below = stands_below w2.nodes.items w2.candidates.items i l low_stands

  pub high_below : j < length w2.nodes.items
  high_below = stands_below w2.nodes.items w2.candidates.items j r high_stands

  abbrev numbers : ℕ → ℕ
  numbers = numbered w0.row.successors.now

  abbrev marked : ℕ → Bool
  marked = flags w0.row.deferrable.now

  -- how many nodes and candidates there are then
  pub nodes_now : length w2.nodes.items + 2 ≡ length w0.nodes.items + 2 * 2 ^ (8 - p.bits)
  nodes_now =
      omega (
        arith,
        (room_step p.bits h).0,
        first_added.nodes_counted,
        high_added.nodes_counted,
        nodes_are numbers marked (8 - (p.bits + 1)) (2 * p.value),
        nodes_are numbers marked (8 - (p.bits + 1)) (2 * p.value + 1),
      )

  pub states_now : length w2.candidates.items + 2 ^ (8 - p.bits) ≤ length w0.candidates.items + room (8 - p.bits)
  states_now =
      omega (
        arith,
        (room_step p.bits h).1,
        first_added.states_counted,
        high_added.states_counted,
        states≤ numbers marked (8 - (p.bits + 1)) (2 * p.value),
        states≤ numbers marked (8 - (p.bits + 1)) (2 * p.value + 1),
      )

  module _ (low high : Node) (at_low : slice_get w2.nodes.items i ≡ Some low) (at_high : slice_get w2.nodes.items j ≡ Some high) where
    low_says : Says w2.candidates.items low l
    low_says = stands_says w2.nodes.items w2.candidates.items i l low at_low low_stands

    high_says : Says w2.candidates.items high r
    high_says = stands_says w2.nodes.items w2.candidates.items j r high at_high high_stands

    pub halves_small : (low.base ≤ 256) × (high.base ≤ 256) × (low.least ≤ 256) × (high.least ≤ 256)
    halves_small =
        omega (
          arith,
          low_says.base_is,
          low_says.least_is,
          high_says.base_is,
          high_says.least_is,
          small numbers marked (p.bits + 1) (2 * p.value),
          small numbers marked (p.bits + 1) (2 * p.value + 1),
        )

    pub halves_inside : Inside (length w2.candidates.items) low.candidates × Inside (length w2.candidates.items) high.candidates
    halves_inside = (low_says.inside, high_says.inside)

    pub halves_room : length w2.candidates.items + (low.candidates.end - low.candidates.first) + (high.candidates.end - high.candidates.first) ≤ length w0.candidates.items + room (8 - p.bits)
    halves_room =
        let low_long = length_range w2.candidates.items low.candidates.first low.candidates.end low_says.inside.1 in
        let high_long = length_range w2.candidates.items high.candidates.first high.candidates.end high_says.inside.1 in
        omega (
          arith,
          states_now,
          (room_step p.bits h).0,
          low_long,
          high_long,
          ap length low_says.candidates_are,
          ap length high_says.candidates_are,
          candidates≤ numbers marked (8 - (p.bits + 1)) (2 * p.value),
          candidates≤ numbers marked (8 - (p.bits + 1)) (2 * p.value + 1),
        )

    -- and the whole after them
    module _ (w3 : Subtrees) (n : Node) (states : List ℕ) (m : ℕ) (joined : Joined w2.candidates.items states low high n) (halves : n.halves ≡ Some (record { low = i; high = j })) (number : m ≡ length w2.nodes.items)
        (nodes : w3.nodes.items ≡ w2.nodes.items ++ n ∷ []) (row : w3.row ≡ w2.row) (same : w3.candidates.items ≡ states) where
      whole_says : Says w3.candidates.items n (node l r)
      whole_says = subst (λ xs. Says xs n (node l r)) (sym same) (says_joined w2.candidates.items states low high n l r low_says high_says joined)

      stored : w3.candidates.items ≡ w2.candidates.items ++ merged w2.candidates.items low high
      stored = same ∙ joined.stored

      stay : (k : ℕ) (t : Tree ℕ) → Stands w2.nodes.items w2.candidates.items k t → Stands w3.nodes.items w3.candidates.items k t
      stay k t s = stands_grown w2.nodes.items w3.nodes.items (n ∷ []) w2.candidates.items w3.candidates.items (merged w2.candidates.items low high) k t nodes stored s

      whole_stands : Stands w3.nodes.items w3.candidates.items m (node l r)
      whole_stands = (
        n,
        record { low = i; high = j },
        subst (λ ns. slice_get ns m ≡ Some n) (sym nodes) (slice_get_last w2.nodes.items n m number),
        whole_says,
        halves,
        stay i l low_stands,
        stay j r high_stands,
      )

      whole_count : length (candidates eqb (node l r)) ≡ length (merged w2.candidates.items low high)
      whole_count = rw (low_says.candidates_are, high_says.candidates_are) refl

      whole_added : Added w0 w3 m (node l r)
      whole_added = record {
        row_is = row ∙ (b.row_is ∙ a.row_is);
        more_nodes = (a.more_nodes.0 ++ (b.more_nodes.0 ++ n ∷ []), appended w0.nodes.items w1.nodes.items w2.nodes.items w3.nodes.items a.more_nodes.0 b.more_nodes.0 (n ∷ []) a.more_nodes.1 b.more_nodes.1 nodes);
        more_states = (a.more_states.0 ++ (b.more_states.0 ++ merged w2.candidates.items low high), appended w0.candidates.items w1.candidates.items w2.candidates.items w3.candidates.items a.more_states.0 b.more_states.0 (merged w2.candidates.items low high) a.more_states.1 b.more_states.1 stored);
        nodes_counted = omega (arith, first_added.nodes_counted, high_added.nodes_counted, ap length nodes, length-append w2.nodes.items (n ∷ []));
        states_counted = omega (arith, first_added.states_counted, high_added.states_counted, ap length stored, length-append w2.candidates.items (merged w2.candidates.items low high), whole_count);
        stands = whole_stands;
      }

      pub prefix_added : Added w0 w3 m (tree_at w0.row p)
      prefix_added = subst (λ (t : Tree ℕ). Added w0 w3 m t) (sym (subtree-halves numbers marked p.bits p.value h)) whole_added
