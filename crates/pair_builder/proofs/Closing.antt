-- The lists that the builder chooses are shortest, and close where any shortest list does. Assumes nothing.
use Rattle.std.proofs.Common.{◌≡◌, ℕ, ◌+◌, ◌/◌, ◌<◌, ◌≤◌, Bool, true, false, cond, ◌&&◌, T, eqb, List, [], ◌∷◌, ◌++◌, length, Some, None, Option, sym, refl, ap, ◌∙◌, subst, arith, length-append, inl, inr, lit≤, lit<}
use Rattle.std.specs.List.{AllByRecursion}
use Rattle.std.specs.Option.{option_or}
use Rattle.std.proofs.ByRecursion.{All-append}
use Rattle.std.proofs.lemmas.Bool.{eq-eqb, eqb-true, and_parts, and_from, false≢true, true≢false}
use Rattle.ternary.specs.declared.words.StateNo.{StateNo}
use Rattle.automaton.specs.Limits.{Handed, Within, dfa}
use Rattle.automaton.specs.Runs.{Dfa}
use Rattle.prefix.specs.declared.word.PrefixWord.{PrefixWord}
use Rattle.prefix.specs.States.{state_no}
use Rattle.prefix.specs.Words.{Formed, Served, ByteRule, Shortest, matches, first}
use Rattle.prefix.proofs.Choosing.{chosen_formed, chosen-shortest}
use Rattle.prefix.proofs.Decided.{chosen_next}
use Rattle.forest.specs.Deferment.{forest_of}
use Rattle.builder.specs.Gathering.{lists_of}
use Rattle.builder.specs.Lists.{row, deferrable, ShortestLists}
use Rattle.builder.proofs.Canonical.{lists_shortest, lists_below, next_below}
use Rattle.pair_builder.specs.Unrolled.{Choice, closing_word, Closes, IsQuietRoot, Chosen}
use Rattle.pair_builder.specs.Choosing.{to_itself, front_of, no_parent, opens, choice_of}

-- one word more at the end
first_more : (ws : List (PrefixWord StateNo)) (w : PrefixWord StateNo) (byte : ℕ) → first (ws ++ w ∷ []) byte ≡ option_or (first ws byte) (first (w ∷ []) byte)
first_more [] w byte = refl
first_more (v ∷ ws) w byte = go (matches v byte) (first_more ws w byte)
  where
    go : (b : Bool) → first (ws ++ w ∷ []) byte ≡ option_or (first ws byte) (first (w ∷ []) byte) → cond b (Some v.next) (first (ws ++ w ∷ []) byte) ≡ option_or (cond b (Some v.next) (first ws byte)) (first (w ∷ []) byte)
    go true e = refl
    go false e = e

-- a closing word matches every byte
closing_first : (s byte : ℕ) → byte < 256 → first (closing_word s ∷ []) byte ≡ Some (state_no s)
closing_first s byte h =
    let m : matches (closing_word s) byte ≡ true = eq-eqb (byte / 256) 0 (omega arith) in
    ap (λ b. cond b (Some (state_no s)) None) m

closed_first : (s byte : ℕ) (ws : List (PrefixWord StateNo)) → byte < 256 → first (ws ++ closing_word s ∷ []) byte ≡ option_or (first ws byte) (Some (state_no s))
closed_first s byte ws h = first_more ws (closing_word s) byte ∙ ap (option_or (first ws byte)) (closing_first s byte h)

told : (b : Bool) → T b → b ≡ true
told true u = refl
told false u = absurd u

tell : (b : Bool) → b ≡ true → T b
tell true e = tt
tell false e = absurd (false≢true e)

module _ (a : Dfa) (s : ℕ) (d : ℕ → Bool) (ws : List (PrefixWord StateNo)) where
  -- words that serve all bytes but those that lead to s, and a closing word that leads there, serve all
  pub meets_closed : ByteRule (row a s) (to_itself a s) ws → ByteRule (row a s) d (ws ++ closing_word s ∷ [])
  meets_closed rule byte h =
      subst (Served (row a s byte) (d byte)) (sym (closed_first s byte ws h)) (go (first ws byte) (rule byte h))
    where
      go : (o : Option StateNo) → Served (row a s byte) (to_itself a s byte) o → Served (row a s byte) (d byte) (option_or o (Some (state_no s)))
      go None t = ap state_no (sym (eqb-true (a.next s byte) s (told (to_itself a s byte) t)))
      go (Some n) e = e

  -- and back
  pub meets_front : ByteRule (row a s) d (ws ++ closing_word s ∷ []) → ByteRule (row a s) (to_itself a s) ws
  meets_front rule byte h = go (first ws byte) (subst (Served (row a s byte) (d byte)) (closed_first s byte ws h) (rule byte h))
    where
      go : (o : Option StateNo) → Served (row a s byte) (d byte) (option_or o (Some (state_no s))) → Served (row a s byte) (to_itself a s byte) o
      go None e = tell (to_itself a s byte) (eq-eqb (a.next s byte) s (sym (ap (λ (n : StateNo). n.0) e)))
      go (Some n) e = e

pub front_shortest : (a : Dfa) (s : ℕ) → Shortest (front_of a s) (row a s) (to_itself a s)
front_shortest a s = chosen-shortest (a.next s) (to_itself a s) (row a s) (λ byte h. refl)

-- no shortest list is longer than the front and the closing word
pub at_most : (a : Dfa) (s : ℕ) → s < a.states → length (lists_of a s) ≤ length (front_of a s) + 1
at_most a s h =
    let rule = meets_closed a s (deferrable a s) (front_of a s) (front_shortest a s).meets in
    let l = (lists_shortest a s h).1.least (front_of a s ++ closing_word s ∷ []) rule in
    omega (arith, l, length-append (front_of a s) (closing_word s ∷ []))

-- where they are no more, they are a shortest list
pub closed_shortest : (a : Dfa) (s : ℕ) → s < a.states → length (front_of a s) + 1 ≡ length (lists_of a s) → Shortest (front_of a s ++ closing_word s ∷ []) (row a s) (deferrable a s)
closed_shortest a s h same = record {
  meets = meets_closed a s (deferrable a s) (front_of a s) (front_shortest a s).meets;
  least = λ others rule.
      let l = (lists_shortest a s h).1.least others rule in
      omega (arith, l, same, length-append (front_of a s) (closing_word s ∷ []));
}

pub closed_formed : (a : Dfa) (s : ℕ) → AllByRecursion Formed (front_of a s ++ closing_word s ∷ [])
closed_formed a s = All-append Formed (front_of a s) (closing_word s ∷ []) (chosen_formed (a.next s) (to_itself a s)) ((lit≤ tt, lit< tt), tt)

-- a shortest list that closes so has as many words
pub closes_same : (a : Dfa) (s : ℕ) → s < a.states → (words : List (PrefixWord StateNo)) → Shortest words (row a s) (deferrable a s) → Closes s words → length (front_of a s) + 1 ≡ length (lists_of a s)
closes_same a s h words short closes =
    let rule : ByteRule (row a s) (deferrable a s) (closes.front ++ closing_word s ∷ []) = subst (ByteRule (row a s) (deferrable a s)) closes.whole short.meets in
    let front = (front_shortest a s).least closes.front (meets_front a s (deferrable a s) closes.front rule) in
    let long = ap length closes.whole ∙ length-append closes.front (closing_word s ∷ []) in
    let less = short.least (lists_of a s) (lists_shortest a s h).1.meets in
    omega (arith, front, long, less, at_most a s h)

-- what the test says
pub opens_says : (a : Dfa) (s : ℕ) → opens a s ≡ true → IsQuietRoot a s × (length (front_of a s) + 1 ≡ length (lists_of a s))
opens_says a s is =
    let p = and_parts (no_parent ((forest_of a).parent s)) (eqb (a.class s) 0 && eqb (length (front_of a s) + 1) (length (lists_of a s))) is in
    let q = and_parts (eqb (a.class s) 0) (eqb (length (front_of a s) + 1) (length (lists_of a s))) p.1 in
    ((root ((forest_of a).parent s) p.0, eqb-true (a.class s) 0 q.0), eqb-true (length (front_of a s) + 1) (length (lists_of a s)) q.1)
  where
    root : (o : Option ℕ) → no_parent o ≡ true → o ≡ None
    root None e = refl
    root (Some p) e = absurd (false≢true e)

pub opens_for : (a : Dfa) (s : ℕ) → IsQuietRoot a s → length (front_of a s) + 1 ≡ length (lists_of a s) → opens a s ≡ true
opens_for a s quiet same =
    and_from (no_parent ((forest_of a).parent s)) (eqb (a.class s) 0 && eqb (length (front_of a s) + 1) (length (lists_of a s))) (ap no_parent quiet.0)
    (and_from (eqb (a.class s) 0) (eqb (length (front_of a s) + 1) (length (lists_of a s))) (eq-eqb (a.class s) 0 quiet.1) (eq-eqb (length (front_of a s) + 1) (length (lists_of a s)) same))

-- the choice
pub choice_chosen : (a : Dfa) → Chosen a (choice_of a)
choice_chosen a = record {
  shortest = λ s h. go s h (opens a s) refl;
  unrolls = λ s h is. ((opens_says a s is).0, record { front = front_of a s; whole = ap (λ b. cond b (front_of a s ++ closing_word s ∷ []) (lists_of a s)) is });
  keeps = λ s h no_test quiet words short closes. true≢false (sym (opens_for a s quiet (closes_same a s h words short closes)) ∙ no_test);
}
  where
    go : (s : ℕ) → s < a.states → (b : Bool) → opens a s ≡ b
        → AllByRecursion Formed (cond b (front_of a s ++ closing_word s ∷ []) (lists_of a s)) × Shortest (cond b (front_of a s ++ closing_word s ∷ []) (lists_of a s)) (row a s) (deferrable a s)
    go s h true is = (closed_formed a s, closed_shortest a s h (opens_says a s is).1)
    go s h false is = lists_shortest a s h

-- every word of the front leads to a state
pub front_below : (a : Handed) → Within a → (s : ℕ) → AllByRecursion (λ w. w.next.0 < a.states) (front_of (dfa a) s)
front_below a within s = chosen_next (λ (n : ℕ). n < a.states) within.some ((dfa a).next s) (to_itself (dfa a) s) (next_below a within s)
