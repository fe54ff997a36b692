-- The list of entries that a column card holds: first match over it, and one entry more.
use Rattle.std.proofs.Common.{◌≡◌, ℕ, zero, suc, ◌+◌, ◌-◌, ◌*◌, ◌/◌, ◌%◌, ◌^◌, ◌<◌, ◌≤◌, min, Bool, true, false, ◌&&◌, eqb, List, [], ◌∷◌, ◌++◌, map, length, get_or, set, Some, None, sym, refl, ap, ◌∙◌, ⊎_elim, arith}
use lib.Bits.{bit_and, and_le_l}
use Rattle.std.specs.List.{range_with_len}
use Rattle.std.proofs.lemmas.Bool.{and_cases, and_from, and_left, and_parts, and_right, both_ways, cases_Bool, cases_eq, cond-false, cond-true, eq-eqb, eqb-false, eqb-true, ne_eqb}
use Rattle.std.proofs.lemmas.List.{get_or-set_same, get_or-set_other}
use Rattle.std.proofs.lemmas.List.FromFn.{map-range_with_len_more}
use Rattle.ternary.specs.declared.entry.Entry.{Entry}
use Rattle.ternary.specs.Entries.{and_again, entry_of}
use Rattle.ternary.specs.Match.{Decision, decision, matches, pick, first}
use Rattle.ternary.proofs.EntryLaws.{entry-same}
use Rattle.card.specs.Cards.{no_entry, Added}
use Rattle.column.specs.Bitmaps.{accepts, hit, first_word, field_mask, field_value, Kept, Marked}
use Rattle.column.specs.ColumnCards.{entry_at, entry_with, entries_of, undecided, unmatched, room}
use Rattle.column.proofs.Numbers.{field_matches, value_marked, mask-marked, field_kept}

-- a value with a bit under a star is what the mask leaves of no number
never_left : (value mask n : ℕ) → eqb (bit_and value mask) value ≡ false → eqb (bit_and n mask) value ≡ false
never_left value mask n off =
    ne_eqb (bit_and n mask) value (λ e. eqb-false (bit_and value mask) value off (ap (λ (v : ℕ). bit_and v mask) (sym e) ∙ (and_again n mask ∙ e)))

-- a value with no bit under a star is what its mask leaves of it
left_alike : (value mask n : ℕ) → eqb (bit_and value mask) value ≡ true → eqb (bit_and n mask) (bit_and value mask) ≡ eqb (bit_and n mask) value
left_alike value mask n on = ap (λ (v : ℕ). eqb (bit_and n mask) v) (eqb-true (bit_and value mask) value on)

-- no code has a seventeenth bit
unmatched-code : (code byte : ℕ) → code < 2 ^ 16 → matches unmatched code byte ≡ false
unmatched-code code byte h =
    and_left (eqb (bit_and code 65536) 65536) (eqb (bit_and byte 0) 0) (ne_eqb (bit_and code 65536) 65536 (λ e. omega (arith, and_le_l code 65536)))

-- an entry with given fields
module _ (cv cm bv bm : ℕ) (d : Decision) where
  abbrev kept : Bool
  kept = eqb (bit_and cv cm) cv && eqb (bit_and bv bm) bv

  with_is : kept ≡ true → entry_with cv cm bv bm d ≡ entry_of cv cm bv bm d.0 d.1
  with_is on = cond-true kept (entry_of cv cm bv bm d.0 d.1) unmatched on

  with_not : kept ≡ false → entry_with cv cm bv bm d ≡ unmatched
  with_not off = cond-false kept (entry_of cv cm bv bm d.0 d.1) unmatched off

  -- it matches where the fields do
  with_matches : (code byte : ℕ) → code < 2 ^ 16 → matches (entry_with cv cm bv bm d) code byte ≡ eqb (bit_and code cm) cv && eqb (bit_and byte bm) bv
  with_matches code byte h =
      ⊎_elim
      (λ (on : kept ≡ true).
      let parts = and_parts (eqb (bit_and cv cm) cv) (eqb (bit_and bv bm) bv) on in
      ap (λ (e : Entry). matches e code byte) (with_is on) ∙ (λ i. left_alike cv cm code parts.0 i && left_alike bv bm byte parts.1 i))
      (λ (off : kept ≡ false).
      ap (λ (e : Entry). matches e code byte) (with_not off) ∙ (unmatched-code code byte h
      ∙ sym (⊎_elim
      (λ (no_code : eqb (bit_and cv cm) cv ≡ false). and_left (eqb (bit_and code cm) cv) (eqb (bit_and byte bm) bv) (never_left cv cm code no_code))
      (λ (no_byte : eqb (bit_and bv bm) bv ≡ false). and_right (eqb (bit_and code cm) cv) (eqb (bit_and byte bm) bv) (never_left bv bm byte no_byte))
      (and_cases (eqb (bit_and cv cm) cv) (eqb (bit_and bv bm) bv) off))))
      (cases_Bool kept)

  -- and then decides as given
  with_decision : (code byte : ℕ) → code < 2 ^ 16 → matches (entry_with cv cm bv bm d) code byte ≡ true → decision (entry_with cv cm bv bm d) ≡ d
  with_decision code byte h m =
      ⊎_elim
      (λ (on : kept ≡ true). ap decision (with_is on))
      (λ (off : kept ≡ false). absurd (both_ways (matches (entry_with cv cm bv bm d) code byte) (ap (λ (e : Entry). matches e code byte) (with_not off) ∙ unmatched-code code byte h) m))
      (cases_Bool kept)

-- an entry read back from its own fields
with_own : (e : Entry) → entry_with e.code_value e.code_mask e.byte_value e.byte_mask (decision e) ≡ e
with_own e =
    let on = and_from (eqb (bit_and e.code_value e.code_mask) e.code_value) (eqb (bit_and e.byte_value e.byte_mask) e.byte_value)
    (eq-eqb (bit_and e.code_value e.code_mask) e.code_value e.code_clear) (eq-eqb (bit_and e.byte_value e.byte_mask) e.byte_value e.byte_clear) in
    with_is e.code_value e.code_mask e.byte_value e.byte_mask (decision e) on
    ∙ entry-same _ e e.code_clear refl e.byte_clear refl refl refl

-- an entry read back matches where each of its columns accepts
pub matches-hit : (ws : List ℕ) (ds : List Decision) (code byte i : ℕ) → code < 2 ^ 16 → byte < 2 ^ 8 → matches (entry_at ws ds i) code byte ≡ hit ws code byte i
unfolding entry_at
matches-hit ws ds code byte i h l =
    with_matches (field_value ws (first_word i) (i % 64) 16) (field_mask ws (first_word i) (i % 64) 16) (field_value ws (first_word i + 32) (i % 64) 8) (field_mask ws (first_word i + 32) (i % 64) 8) (get_or ds i undecided) code byte h
    ∙ (λ j. field_matches ws (first_word i) (i % 64) code 16 h j && field_matches ws (first_word i + 32) (i % 64) byte 8 l j)

-- first match over a list made from a function of the index
module _ (f : ℕ → Entry) (code byte : ℕ) where
  first_none : (a n : ℕ) → ((j : ℕ) → a ≤ j → j < a + n → matches (f j) code byte ≡ false) → first (map f (range_with_len a n)) code byte ≡ None
  first_none a zero h = refl
  first_none a (suc n) h =
      ap (λ (t : Bool). pick t (f a) (first (map f (range_with_len (a + 1) n)) code byte)) (h a (omega arith) (omega arith))
      ∙ first_none (a + 1) n (λ j l g. h j (omega arith) (omega arith))

  first_some : (a n i : ℕ) → a ≤ i → i < a + n → matches (f i) code byte ≡ true → ((j : ℕ) → a ≤ j → j < i → matches (f j) code byte ≡ false)
      → first (map f (range_with_len a n)) code byte ≡ Some (decision (f i))
  first_some a zero i l g e h = absurd (omega arith)
  first_some a (suc n) i l g e h =
      ⊎_elim
      (λ (s : a ≡ i).
      ap (λ (t : Bool). pick t (f a) (first (map f (range_with_len (a + 1) n)) code byte)) (ap (λ (k : ℕ). matches (f k) code byte) s ∙ e)
      ∙ ap (λ (k : ℕ). Some (decision (f k))) s)
      (λ (n≠ : a ≡ i → ⊥).
      let past : a < i = omega arith in
      ap (λ (t : Bool). pick t (f a) (first (map f (range_with_len (a + 1) n)) code byte)) (h a (omega arith) past)
      ∙ first_some (a + 1) n i (omega arith) (omega arith) e (λ j b d. h j (omega arith) d))
      (cases_eq a i)

-- what a search finds is the first match
module _ (ws : List ℕ) (ds : List Decision) (n code byte : ℕ) (code_fits : code < 2 ^ 16) (byte_fits : byte < 2 ^ 8) where
  pub none_first : ((j : ℕ) → j < n → hit ws code byte j ≡ false) → first (entries_of ws ds n) code byte ≡ None
  none_first h = first_none (entry_at ws ds) code byte 0 n (λ j l g. matches-hit ws ds code byte j code_fits byte_fits ∙ h j (omega arith))

  pub some_first : (i : ℕ) → i < n → hit ws code byte i ≡ true → ((j : ℕ) → j < i → hit ws code byte j ≡ false)
      → first (entries_of ws ds n) code byte ≡ Some (get_or ds i undecided)
  unfolding entry_at
  some_first i l e h =
      let found = matches-hit ws ds code byte i code_fits byte_fits ∙ e in
      first_some (entry_at ws ds) code byte 0 n i (omega arith) (omega arith) found (λ j b g. matches-hit ws ds code byte j code_fits byte_fits ∙ h j g)
      ∙ ap Some
      (with_decision (field_value ws (first_word i) (i % 64) 16) (field_mask ws (first_word i) (i % 64) 16) (field_value ws (first_word i + 32) (i % 64) 8) (field_mask ws (first_word i + 32) (i % 64) 8) (get_or ds i undecided) code byte code_fits found)

-- lists made from two functions that agree on each index
map_like : (f g : ℕ → Entry) (a n : ℕ) → ((j : ℕ) → a ≤ j → j < a + n → f j ≡ g j) → map f (range_with_len a n) ≡ map g (range_with_len a n)
map_like f g a zero h = refl
map_like f g a (suc n) h =
    ap (λ (e : Entry). e ∷ map f (range_with_len (a + 1) n)) (h a (omega arith) (omega arith))
    ∙ ap (λ (es : List Entry). g a ∷ es) (map_like f g (a + 1) n (λ j l b. h j (omega arith) (omega arith)))

-- the marks of entry n written, and its decision
module _ (ws after : List ℕ) (ds : List Decision) (n : ℕ) (e : Entry)
    (kept : Kept ws after (first_word n) 24 (n % 64)) (by_code : Marked after (first_word n) 16 (n % 64) e.code_value e.code_mask)
    (by_byte : Marked after (first_word n + 32) 8 (n % 64) e.byte_value e.byte_mask) where
  -- the marks of another entry are as they were
  other_kept : (i base k v : ℕ) → i < n → first_word i ≤ base → base + 2 * k + v < first_word i + 48 → accepts after base (i % 64) k v ≡ accepts ws base (i % 64) k v
  unfolding accepts
  other_kept i base k v l low high =
      let place : i % 64 < 64 = omega arith in
      kept (base + 2 * k + v) (i % 64) place (λ a b c. omega arith)

  entry_old : (d : Decision) (i : ℕ) → i < n → entry_at after (set ds n d) i ≡ entry_at ws ds i
  unfolding entry_at
  entry_old d i l =
      let codes = field_kept ws after (first_word i) (i % 64) 16 (λ k v b c. other_kept i (first_word i) k v l (omega arith) (omega arith)) in
      let bytes = field_kept ws after (first_word i + 32) (i % 64) 8 (λ k v b c. other_kept i (first_word i + 32) k v l (omega arith) (omega arith)) in
      let decided : get_or (set ds n d) i undecided ≡ get_or ds i undecided = get_or-set_other ds n i d undecided (λ s. omega arith) in
      λ j. entry_with (codes.0 j) (codes.1 j) (bytes.0 j) (bytes.1 j) (decided j)

  entry_new : n < length ds → e.code_value < 2 ^ 16 → e.code_mask < 2 ^ 16 → e.byte_value < 2 ^ 8 → e.byte_mask < 2 ^ 8 → entry_at after (set ds n (decision e)) n ≡ e
  unfolding entry_at
  entry_new l h₀ h₁ h₂ h₃ =
      let code_value = value_marked after (first_word n) (n % 64) 16 e.code_value e.code_mask by_code h₀ in
      let code_mask = mask-marked after (first_word n) (n % 64) 16 e.code_value e.code_mask by_code h₁ in
      let byte_value = value_marked after (first_word n + 32) (n % 64) 8 e.byte_value e.byte_mask by_byte h₂ in
      let byte_mask = mask-marked after (first_word n + 32) (n % 64) 8 e.byte_value e.byte_mask by_byte h₃ in
      let decided : get_or (set ds n (decision e)) n undecided ≡ decision e = get_or-set_same ds n (decision e) undecided l in
      (λ j. entry_with (code_value j) (code_mask j) (byte_value j) (byte_mask j) (decided j)) ∙ with_own e

  -- the list has the entry at its end, and is else as it was
  pub appended : n < length ds → e.code_value < 2 ^ 16 → e.code_mask < 2 ^ 16 → e.byte_value < 2 ^ 8 → e.byte_mask < 2 ^ 8
      → entries_of after (set ds n (decision e)) (n + 1) ≡ entries_of ws ds n ++ e ∷ []
  appended l h₀ h₁ h₂ h₃ =
      let f : ℕ → Entry = entry_at after (set ds n (decision e)) in
      map-range_with_len_more f 0 n n (omega arith)
      ∙ ap (λ (es : List Entry). es ++ f n ∷ []) (map_like f (entry_at ws ds) 0 n (λ j _ b. entry_old (decision e) j (omega arith)))
      ∙ ap (λ (x : Entry). entries_of ws ds n ++ x ∷ []) (entry_new l h₀ h₁ h₂ h₃)

-- a list of no places has no entry, and every other one has
pub none_placed : (f : ℕ → Entry) (n : ℕ) → eqb n 0 ≡ no_entry (map f (range_with_len 0 n))
none_placed f zero = refl
none_placed f (suc n) = ne_eqb (suc n) 0 (λ e. omega arith)

-- writes leave the room as it is
pub room-same : (ws vs : List ℕ) (ds es : List Decision) → length vs ≡ length ws → length es ≡ length ds → room vs es ≡ room ws ds
room-same ws vs ds es p q = ap (λ (n : ℕ). min 4096 (min (length es) (64 * (n / 48)))) p ∙ ap (λ (n : ℕ). min 4096 (min n (64 * (length ws / 48)))) q

-- an entry written behind those in use
pub added_behind : (ws after : List ℕ) (ds : List Decision) (used : ℕ) (e : Entry) (d : Decision) → d ≡ decision e
    → Kept ws after (first_word used) 24 (used % 64) → Marked after (first_word used) 16 (used % 64) e.code_value e.code_mask
    → Marked after (first_word used + 32) 8 (used % 64) e.byte_value e.byte_mask
    → e.code_value < 2 ^ 16 → e.code_mask < 2 ^ 16 → e.byte_value < 2 ^ 8 → e.byte_mask < 2 ^ 8
    → used < room ws ds → room after (set ds used d) ≡ room ws ds
    → Added e (entries_of ws ds (min used (room ws ds))) (room ws ds - used) (entries_of after (set ds used d) (min (used + 1) (room after (set ds used d)))) (room after (set ds used d) - (used + 1))
added_behind ws after ds used e d decided kept by_code by_byte h₀ h₁ h₂ h₃ fits same-room =
    let old : min used (room ws ds) ≡ used = omega arith in
    let new : min (used + 1) (room after (set ds used d)) ≡ used + 1 = omega arith in
    record {
      room = omega arith;
      last =
          ap (entries_of after (set ds used d)) new
          ∙ ap (λ (x : Decision). entries_of after (set ds used x) (used + 1)) decided
          ∙ appended ws after ds used e kept by_code by_byte (omega arith) h₀ h₁ h₂ h₃
          ∙ ap (λ (k : ℕ). entries_of ws ds k ++ e ∷ []) (sym old);
      taken = omega arith;
    }
