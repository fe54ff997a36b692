-- The byte rule over prefix words is the rule over the leaves of the row's tree. Assumes nothing.
use Rattle.std.proofs.Common.{◌≡◌, ℕ, zero, suc, ◌+◌, ◌-◌, ◌*◌, ◌/◌, ◌%◌, ◌^◌, ◌<◌, ◌≤◌, min, Bool, true, false, cond, eqb, ltb, List, [], ◌∷◌, map, length, Some, None, Option, sym, refl, ap, ◌∙◌, div-one, add-one, arith, pow-add, shr-shr, shr_lt, ltb-false, ltb-true, eq-eqb, ne_eqb, eqb-true}
use lib.ListN.{length-map}
use borrow.Author.Tests.{eqb-false}
use Rattle.prefix.specs.declared.word.PrefixWord.{PrefixWord}
use Rattle.prefix.specs.Words.{matches, first, Served, Shortest, Fewest}
use Rattle.prefix.specs.Tree.{Tree, Mark, here, low, high, nowhere, least, emit}
use Rattle.prefix.proofs.Meeting.{lows, highs, fits, meets, deferred}
use Rattle.prefix.specs.Row.{build, subtree, dead, word, shortest}
use Rattle.prefix.proofs.Halves.{false≢true}
use Rattle.prefix.proofs.Lower.{both, lower}
use Rattle.prefix.proofs.Upper.{emit-meets, emit-length}

-- the first answer that there is
abbrev or_else : {D : Type 0} → Option D → Option D → Option D
or_else None o = o
or_else (Some e) o = Some e

-- the bit of a byte that a tree of height h + 1 branches on is 0
abbrev is_low : ℕ → ℕ → Bool
is_low h byte = eqb (byte / 2 ^ h % 2) 0

-- what a mark decides for a byte, in a tree of the given height
abbrev mark_at : {D : Type 0} → ℕ → Mark D → ℕ → Option D
mark_at h (here e) byte = Some e
mark_at zero (low m) byte = None
mark_at (suc h) (low m) byte = cond (is_low h byte) (mark_at h m byte) None
mark_at zero (high m) byte = None
mark_at (suc h) (high m) byte = cond (is_low h byte) None (mark_at h m byte)
mark_at h nowhere byte = None

-- what a list of marks decides for a byte
abbrev decides : {D : Type 0} → ℕ → List (Mark D) → ℕ → Option D
decides h [] byte = None
decides h (m ∷ ms) byte = or_else (mark_at h m byte) (decides h ms byte)

-- is that right for the byte?
abbrev okay : {D : Type 0} → (D → D → Bool) → D → Bool → Option D → Bool
okay same f d None = d
okay same f d (Some e) = same e f

decides_low : {D : Type 0} (h : ℕ) (byte : ℕ) → is_low h byte ≡ true → (ms : List (Mark D)) → decides (suc h) ms byte ≡ decides h (lows ms) byte
decides_low h byte p [] = refl
decides_low h byte p (here e ∷ ms) = refl
decides_low h byte p (low m ∷ ms) = rw p (ap (λ o. or_else (mark_at h m byte) o) (decides_low h byte p ms))
decides_low h byte p (high m ∷ ms) = rw p (decides_low h byte p ms)
decides_low h byte p (nowhere ∷ ms) = decides_low h byte p ms

decides_high : {D : Type 0} (h : ℕ) (byte : ℕ) → is_low h byte ≡ false → (ms : List (Mark D)) → decides (suc h) ms byte ≡ decides h (highs ms) byte
decides_high h byte p [] = refl
decides_high h byte p (here e ∷ ms) = refl
decides_high h byte p (low m ∷ ms) = rw p (decides_high h byte p ms)
decides_high h byte p (high m ∷ ms) = rw p (ap (λ o. or_else (mark_at h m byte) o) (decides_high h byte p ms))
decides_high h byte p (nowhere ∷ ms) = decides_high h byte p ms

decides_leaf : {D : Type 0} (same : D → D → Bool) (f : D) (d : Bool) (byte : ℕ) (ms : List (Mark D)) → fits same deferred f d ms ≡ okay same f d (decides 0 ms byte)
decides_leaf same f d byte [] = refl
decides_leaf same f d byte (here e ∷ ms) = refl
decides_leaf same f d byte (low m ∷ ms) = decides_leaf same f d byte ms
decides_leaf same f d byte (high m ∷ ms) = decides_leaf same f d byte ms
decides_leaf same f d byte (nowhere ∷ ms) = decides_leaf same f d byte ms

-- one bit more
next_bit : (byte h : ℕ) → byte / 2 ^ suc h ≡ byte / 2 ^ h / 2
next_bit byte h = sym (rw add-one at (shr-shr byte h 1))

-- the byte of a leaf has the leaf's bits, and its next bit says in which half of a tree it lies
low_bits : (byte h v : ℕ) → byte / 2 ^ suc h ≡ v → is_low h byte ≡ true → byte / 2 ^ h ≡ 2 * v
low_bits byte h v p q = omega (arith, next_bit byte h, eqb-true (byte / 2 ^ h % 2) 0 q)

high_bits : (byte h v : ℕ) → byte / 2 ^ suc h ≡ v → is_low h byte ≡ false → byte / 2 ^ h ≡ 2 * v + 1
high_bits byte h v p q = omega (arith, next_bit byte h, eqb-false (byte / 2 ^ h % 2) 0 q)

bits_low : (byte h v : ℕ) → byte / 2 ^ h ≡ 2 * v → (byte / 2 ^ suc h ≡ v) × (is_low h byte ≡ true)
bits_low byte h v p = (omega (arith, next_bit byte h), eq-eqb (byte / 2 ^ h % 2) 0 (omega arith))

bits_high : (byte h v : ℕ) → byte / 2 ^ h ≡ 2 * v + 1 → (byte / 2 ^ suc h ≡ v) × (is_low h byte ≡ false)
bits_high byte h v p = (omega (arith, next_bit byte h), ne_eqb (byte / 2 ^ h % 2) 0 (omega arith))

module _ {D : Type 0} (same : D → D → Bool) (row : ℕ → D) (deferrable : ℕ → Bool) where
  -- the rule for one byte
  abbrev Right : ℕ → Option D → Type 0
  Right byte o = okay same (row byte) (deferrable byte) o ≡ true

  -- marks that meet a tree are right for each of its bytes
  meets_right : (h v : ℕ) (ms : List (Mark D)) (byte : ℕ) → meets same deferred (build row deferrable h v) ms ≡ true → byte / 2 ^ h ≡ v → Right byte (decides h ms byte)
  meets_right zero v ms byte m p =
      let e : byte ≡ v = sym (div-one byte) ∙ p in
      sym (decides_leaf same (row byte) (deferrable byte) byte ms) ∙ rw e m
  meets_right (suc h) v ms byte m p = go (is_low h byte) refl (meets_right h)
    where
      go : (b : Bool) → is_low h byte ≡ b
          → ((u : ℕ) (ns : List (Mark D)) (c : ℕ) → meets same deferred (build row deferrable h u) ns ≡ true → c / 2 ^ h ≡ u → Right c (decides h ns c))
          → Right byte (decides (suc h) ms byte)
      go true q ih = rw (decides_low h byte q ms) (ih (2 * v) (lows ms) byte (both (meets same deferred (build row deferrable h (2 * v)) (lows ms)) (meets same deferred (build row deferrable h (2 * v + 1)) (highs ms)) m).0 (low_bits byte h v p q))
      go false q ih = rw (decides_high h byte q ms) (ih (2 * v + 1) (highs ms) byte (both (meets same deferred (build row deferrable h (2 * v)) (lows ms)) (meets same deferred (build row deferrable h (2 * v + 1)) (highs ms)) m).1 (high_bits byte h v p q))

  -- marks that are right for each byte of a tree meet it
  right_meets : (h v : ℕ) (ms : List (Mark D)) → ((byte : ℕ) → byte / 2 ^ h ≡ v → Right byte (decides h ms byte)) → meets same deferred (build row deferrable h v) ms ≡ true
  right_meets zero v ms k = decides_leaf same (row v) (deferrable v) v ms ∙ k v (div-one v)
  right_meets (suc h) v ms k =
      rw (right_meets h (2 * v) (lows ms) (λ byte p. let q = bits_low byte h v p in rw (decides_low h byte q.1 ms) at (k byte q.0)))
      (right_meets h (2 * v + 1) (highs ms) (λ byte p. let q = bits_high byte h v p in rw (decides_high h byte q.1 ms) at (k byte q.0)))

-- what one word decides for a byte
abbrev reads : {D : Type 0} → PrefixWord D → ℕ → Option D
reads w byte = cond (matches w byte) (Some w.next) None

cond_none : {D : Type 0} (b : Bool) → ◌≡◌ {A = Option D} (cond b None None) None
cond_none true = refl
cond_none false = refl

cond_or_else : {D : Type 0} (b : Bool) (e : D) (o : Option D) → cond b (Some e) o ≡ or_else (cond b (Some e) None) o
cond_or_else true e o = refl
cond_or_else false e o = refl

reads_dead : {D : Type 0} (unknown : D) (byte : ℕ) → byte < 256 → (b : Bool) → reads (dead unknown) byte ≡ cond b None None
reads_dead unknown byte h b =
    let p : eqb (byte / 256) 1 ≡ false = ne_eqb (byte / 256) 1 (omega arith) in
    rw p (sym (cond_none b))

-- a byte in the low half of a tree, and in the tree
join_low : {D : Type 0} (byte h v : ℕ) (o : Option D) → cond (eqb (byte / 2 ^ h) (2 * v)) o None ≡ cond (eqb (byte / 2 ^ suc h) v) (cond (is_low h byte) o None) None
join_low byte h v o = go (eqb (byte / 2 ^ h) (2 * v)) refl (eqb (byte / 2 ^ suc h) v) refl (is_low h byte) refl
  where
    inside : eqb (byte / 2 ^ h) (2 * v) ≡ true → (byte / 2 ^ suc h ≡ v) × (is_low h byte ≡ true)
    inside p = bits_low byte h v (eqb-true (byte / 2 ^ h) (2 * v) p)

    go : (a : Bool) → eqb (byte / 2 ^ h) (2 * v) ≡ a → (b : Bool) → eqb (byte / 2 ^ suc h) v ≡ b → (c : Bool) → is_low h byte ≡ c → cond a o None ≡ cond b (cond c o None) None
    go true p true q true r = refl
    go true p true q false r = absurd (false≢true (sym r ∙ (inside p).1))
    go true p false q c r = absurd (eqb-false (byte / 2 ^ suc h) v q (inside p).0)
    go false p true q true r = absurd (eqb-false (byte / 2 ^ h) (2 * v) p (low_bits byte h v (eqb-true (byte / 2 ^ suc h) v q) r))
    go false p true q false r = refl
    go false p false q c r = refl

-- a byte in the high half of a tree, and in the tree
join_high : {D : Type 0} (byte h v : ℕ) (o : Option D) → cond (eqb (byte / 2 ^ h) (2 * v + 1)) o None ≡ cond (eqb (byte / 2 ^ suc h) v) (cond (is_low h byte) None o) None
join_high byte h v o = go (eqb (byte / 2 ^ h) (2 * v + 1)) refl (eqb (byte / 2 ^ suc h) v) refl (is_low h byte) refl
  where
    inside : eqb (byte / 2 ^ h) (2 * v + 1) ≡ true → (byte / 2 ^ suc h ≡ v) × (is_low h byte ≡ false)
    inside p = bits_high byte h v (eqb-true (byte / 2 ^ h) (2 * v + 1) p)

    go : (a : Bool) → eqb (byte / 2 ^ h) (2 * v + 1) ≡ a → (b : Bool) → eqb (byte / 2 ^ suc h) v ≡ b → (c : Bool) → is_low h byte ≡ c → cond a o None ≡ cond b (cond c None o) None
    go true p true q true r = absurd (false≢true (sym (inside p).1 ∙ r))
    go true p true q false r = refl
    go true p false q c r = absurd (eqb-false (byte / 2 ^ suc h) v q (inside p).0)
    go false p true q true r = refl
    go false p true q false r = absurd (eqb-false (byte / 2 ^ h) (2 * v + 1) p (high_bits byte h v (eqb-true (byte / 2 ^ suc h) v q) r))
    go false p false q c r = refl

-- a mark's word decides for a byte what the mark decides, where the byte lies in the tree
reads_word : {D : Type 0} (unknown : D) (h v : ℕ) (m : Mark D) (byte : ℕ) → h ≤ 8 → byte < 256 → reads (word unknown h v m) byte ≡ cond (eqb (byte / 2 ^ h) v) (mark_at h m byte) None
reads_word unknown h v (here e) byte p q = let r : 8 - (8 - h) ≡ h = omega arith in rw r refl
reads_word unknown zero v (low m) byte p q = reads_dead unknown byte q (eqb (byte / 2 ^ 0) v)
reads_word unknown (suc h) v (low m) byte p q = reads_word unknown h (2 * v) m byte (omega arith) q ∙ join_low byte h v (mark_at h m byte)
reads_word unknown zero v (high m) byte p q = reads_dead unknown byte q (eqb (byte / 2 ^ 0) v)
reads_word unknown (suc h) v (high m) byte p q = reads_word unknown h (2 * v + 1) m byte (omega arith) q ∙ join_high byte h v (mark_at h m byte)
reads_word unknown h v nowhere byte p q = reads_dead unknown byte q (eqb (byte / 2 ^ h) v)

-- the whole row's tree has every byte
reads_root : {D : Type 0} (unknown : D) (m : Mark D) (byte : ℕ) → byte < 256 → reads (word unknown 8 0 m) byte ≡ mark_at 8 m byte
reads_root unknown m byte q =
    let p : eqb (byte / 256) 0 ≡ true = eq-eqb (byte / 256) 0 (omega arith) in
    reads_word unknown 8 0 m byte (omega arith) q ∙ rw p refl

-- the emitted words decide for a byte what their marks decide
first_words : {D : Type 0} (unknown : D) (ms : List (Mark D)) (byte : ℕ) → byte < 256 → first (map (word unknown 8 0) ms) byte ≡ decides 8 ms byte
first_words unknown [] byte q = refl
first_words unknown (m ∷ ms) byte q =
    cond_or_else (matches (word unknown 8 0 m) byte) (word unknown 8 0 m).next (first (map (word unknown 8 0) ms) byte)
    ∙ rw (reads_root unknown m byte q, first_words unknown ms byte q) refl

-- a mark brought down from the k first bits v
abbrev chain : {D : Type 0} → ℕ → ℕ → Mark D → Mark D
chain zero v m = m
chain (suc k) v m = chain k (v / 2) (cond (eqb (v % 2) 0) (low m) (high m))

pub double : (k : ℕ) → 2 ^ suc k ≡ 2 ^ k * 2
double k = rw add-one at (pow-add 2 k 1)

chain_word : {D : Type 0} (unknown : D) (k v : ℕ) (m : Mark D) (h : ℕ) → k + h ≡ 8 → v < 2 ^ k → word unknown 8 0 (chain k v m) ≡ word unknown h v m
chain_word unknown zero v m h p q =
    let a : h ≡ 8 = omega arith in
    let b : v ≡ 0 = omega arith in
    rw (a, b) refl
chain_word unknown (suc k) v m h p q = chain_word unknown k (v / 2) (cond (eqb (v % 2) 0) (low m) (high m)) (suc h) (omega arith) (omega (arith, double k)) ∙ go (eqb (v % 2) 0) refl
  where
    go : (b : Bool) → eqb (v % 2) 0 ≡ b → word unknown (suc h) (v / 2) (cond b (low m) (high m)) ≡ word unknown h v m
    go true e = let r : 2 * (v / 2) ≡ v = omega (arith, eqb-true (v % 2) 0 e) in ap (λ u. word unknown h u m) r
    go false e = let r : 2 * (v / 2) + 1 ≡ v = omega (arith, eqb-false (v % 2) 0 e) in ap (λ u. word unknown h u m) r

-- the mark of a word: a word that no byte matches is nowhere
abbrev to_mark : {D : Type 0} → PrefixWord D → Mark D
to_mark w = cond (ltb w.value (2 ^ min w.bits 8)) (chain (min w.bits 8) w.value (here w.next)) nowhere

reads_mark : {D : Type 0} (w : PrefixWord D) (byte : ℕ) → byte < 256 → reads w byte ≡ mark_at 8 (to_mark w) byte
reads_mark w byte q = go (ltb w.value (2 ^ min w.bits 8)) refl
  where
    go : (b : Bool) → ltb w.value (2 ^ min w.bits 8) ≡ b → reads w byte ≡ mark_at 8 (cond b (chain (min w.bits 8) w.value (here w.next)) nowhere) byte
    go true p =
        let k = min w.bits 8 in
        let r : 8 - w.bits ≡ 8 - (8 - (8 - k)) = omega arith in
        ap (λ n. cond (eqb (byte / 2 ^ n) w.value) (Some w.next) None) r
        ∙ sym (ap (λ u. reads u byte) (chain_word w.next k w.value (here w.next) (8 - k) (omega arith) (ltb-true w.value (2 ^ k) p)))
        ∙ reads_root w.next (chain k w.value (here w.next)) byte q
    go false p =
        let k = min w.bits 8 in
        let s : k + (8 - w.bits) ≡ 8 = omega arith in
        let b : byte < 2 ^ (k + (8 - w.bits)) = rw s q in
        let n : eqb (byte / 2 ^ (8 - w.bits)) w.value ≡ false = ne_eqb (byte / 2 ^ (8 - w.bits)) w.value (omega (arith, shr_lt k (8 - w.bits) b, ltb-false w.value (2 ^ k) p)) in
        rw n refl

first_marks : {D : Type 0} (ws : List (PrefixWord D)) (byte : ℕ) → byte < 256 → first ws byte ≡ decides 8 (map to_mark ws) byte
first_marks [] byte q = refl
first_marks (w ∷ ws) byte q =
    cond_or_else (matches w byte) w.next (first ws byte)
    ∙ rw (reads_mark w byte q, first_marks ws byte q) refl

module _ {D : Type 0} (same : D → D → Bool) (same_eq : (a b : D) → same a b ≡ true → a ≡ b) (same_refl : (a : D) → same a a ≡ true) where
  served : (f : D) (d : Bool) (o : Option D) → okay same f d o ≡ true → Served f d o
  served f true None p = tt
  served f false None p = absurd (false≢true p)
  served f d (Some e) p = same_eq e f p

  okay_served : (f : D) (d : Bool) (o : Option D) → Served f d o → okay same f d o ≡ true
  okay_served f true None p = refl
  okay_served f false None p = absurd p
  okay_served f d (Some e) p = ap (λ x. same x f) p ∙ same_refl f

  module _ (unknown : D) (row : ℕ → D) (deferrable : ℕ → Bool) where
    -- the emitted words of a tree are shortest, where the tree has just the bytes of the row
    shortest_of : (t : Tree D)
        → ((ms : List (Mark D)) (byte : ℕ) → meets same deferred t ms ≡ true → byte < 256 → Right same row deferrable byte (decides 8 ms byte))
        → ((ms : List (Mark D)) → ((byte : ℕ) → byte < 256 → Right same row deferrable byte (decides 8 ms byte)) → meets same deferred t ms ≡ true)
        → Shortest (map (word unknown 8 0) (emit same unknown t)) row deferrable
    shortest_of t down up = record {
      meets = λ byte q. served (row byte) (deferrable byte) (first (map (word unknown 8 0) (emit same unknown t)) byte)
          (rw (first_words unknown (emit same unknown t) byte q) (down (emit same unknown t) byte (emit-meets same same_eq same_refl unknown t) q));
      least = λ others rule.
          let met : meets same deferred t (map to_mark others) ≡ true =
          up (map to_mark others) (λ byte q. rw (first_marks others byte q) at (okay_served (row byte) (deferrable byte) (first others byte) (rule byte q))) in
          omega (arith, length-map (emit same unknown t) (word unknown 8 0), length-map others to_mark, emit-length same same_eq same_refl unknown t, lower same same_eq t (map to_mark others) met);
    }

    pub shortest_stands : Shortest (shortest unknown same row deferrable) row deferrable
    shortest_stands = shortest_of (build row deferrable 8 0)
        (λ ms byte met q. meets_right same row deferrable 8 0 ms byte met (omega arith))
        (λ ms right. right_meets same row deferrable 8 0 ms (λ byte p. right byte (omega arith)))

    -- as many words as the tree costs
    pub shortest-length : length (shortest unknown same row deferrable) ≡ least same (subtree row deferrable 0 0)
    shortest-length = length-map (emit same unknown (subtree row deferrable 0 0)) (word unknown 8 0) ∙ emit-length same same_eq same_refl unknown (subtree row deferrable 0 0)

-- all shortest lists have as many words
pub fewest : {D : Type 0} (words : List (PrefixWord D)) (row : ℕ → D) (deferrable : ℕ → Bool) (count : ℕ) → Shortest words row deferrable → count ≡ length words → Fewest count row deferrable
fewest words row deferrable count s e = record {
  words = words;
  shortest = s;
  counted = λ others t. omega (arith, s.least others t.meets, t.least words s.meets);
}

-- the test of numbers is a test of equality
pub eqb_same : (a : ℕ) → eqb a a ≡ true
eqb_same a = eq-eqb a a refl
