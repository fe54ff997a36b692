-- Words whose decisions are told in another way, as numbers for states: a shortest list stays one. Assumes nothing.
use Rattle.std.proofs.Common.{◌≡◌, ℕ, ◌<◌, Bool, true, false, cond, List, [], ◌∷◌, map, Some, None, Option, refl, sym, ap, subst, arith}
use lib.ListN.{length-map}
use Rattle.std.specs.Option.{option_map}
use Rattle.std.specs.List.{AllByRecursion}
use Rattle.prefix.specs.declared.word.PrefixWord.{PrefixWord}
use Rattle.prefix.specs.Words.{Formed, matches, first, Served, ByteRule, Shortest}

module _ {D E : Type 0} (f : D → E) where
  -- the same word with its decision told in the other way
  abbrev pub redecided : PrefixWord D → PrefixWord E
  redecided w = record { bits = w.bits; value = w.value; next = f w.next }

  first_redecided : (ws : List (PrefixWord D)) (byte : ℕ) → first (map redecided ws) byte ≡ option_map f (first ws byte)
  first_redecided [] byte = refl
  first_redecided (w ∷ ws) byte = go (matches w byte) (first_redecided ws byte)
    where
      go : (b : Bool) → first (map redecided ws) byte ≡ option_map f (first ws byte) → cond b (Some (f w.next)) (first (map redecided ws) byte) ≡ option_map f (cond b (Some w.next) (first ws byte))
      go true h = refl
      go false h = h

  served_redecided : (own : D) (d : Bool) (o : Option D) → Served own d o → Served (f own) d (option_map f o)
  served_redecided own d None p = p
  served_redecided own d (Some next) p = ap f p

  -- the byte rule holds of the other row
  rule_redecided : (row : ℕ → D) (row' : ℕ → E) (d : ℕ → Bool) (ws : List (PrefixWord D)) → ((byte : ℕ) → byte < 256 → f (row byte) ≡ row' byte) → ByteRule row d ws → ByteRule row' d (map redecided ws)
  rule_redecided row row' d ws rows rule byte h =
      let P : E → Type 0 = λ own. Served own (d byte) (option_map f (first ws byte)) in
      rw (first_redecided ws byte) (subst P (rows byte h) (served_redecided (row byte) (d byte) (first ws byte) (rule byte h)))

  pub formed_redecided : (ws : List (PrefixWord D)) → AllByRecursion Formed ws → AllByRecursion Formed (map redecided ws)
  formed_redecided [] p = tt
  formed_redecided (w ∷ ws) p = (p.0, formed_redecided ws p.1)

-- a shortest list stays one, where the decisions of the row can be told back
pub shortest_redecided : {D E : Type 0} (f : D → E) (g : E → D) (row : ℕ → D) (row' : ℕ → E) (d : ℕ → Bool)
    → ((byte : ℕ) → byte < 256 → f (row byte) ≡ row' byte) → ((byte : ℕ) → byte < 256 → g (row' byte) ≡ row byte)
    → (ws : List (PrefixWord D)) → Shortest ws row d → Shortest (map (redecided f) ws) row' d
shortest_redecided f g row row' d to from ws s = record {
  meets = rule_redecided f row row' d ws to s.meets;
  least = λ others rule.
      let k = s.least (map (redecided g) others) (rule_redecided g row' row d others from rule) in
      omega (arith, k, length-map ws (redecided f), length-map others (redecided g));
}

-- a shortest list is one for every telling of the same deferrable bytes
pub shortest-deferrable : {D : Type 0} (row : ℕ → D) (d d' : ℕ → Bool) (ws : List (PrefixWord D)) → ((byte : ℕ) → byte < 256 → d byte ≡ d' byte) → Shortest ws row d → Shortest ws row d'
shortest-deferrable row d d' ws flags s = record {
  meets = λ byte h. subst (λ (b : Bool). Served (row byte) b (first ws byte)) (flags byte h) (s.meets byte h);
  least = λ others rule. s.least others (λ byte h. subst (λ (b : Bool). Served (row byte) b (first others byte)) (sym (flags byte h)) (rule byte h));
}
