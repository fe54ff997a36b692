-- What the two cards of a tandem do, seen as what the whole does.
use Rattle.std.proofs.Common.{◌≡◌, ℕ, true, false, ◌&&◌, List, [], ◌∷◌, ◌++◌, is_ok, Ok, Err, Result, sym, refl, ap, ◌∙◌, subst, arith, MatchResult}
use Rattle.std.proofs.lemmas.List.{append-nil, append_assoc}
use Rattle.std.proofs.lemmas.Bool.{true≢false}
use Rattle.ternary.specs.declared.entry.Entry.{Entry}
use Rattle.ternary.specs.declared.refusal.Refusal.{Refusal}
use Rattle.ternary.specs.Match.{first}
use Rattle.std.specs.Option.{option_or}
use Rattle.ternary.proofs.FirstMatch.{first-++}
use Rattle.card.specs.declared.tandem.Tandem.{Tandem}
use Rattle.card.specs.Cards.{no_entry, Added, Declined}
use Rattle.card.specs.Tandem.{in_a_row, free_of}

-- a list has no entry exactly when neither part has one
pub none_in_both : (es fs : List Entry) → no_entry (es ++ fs) ≡ no_entry es && no_entry fs
none_in_both [] fs = refl
none_in_both (e ∷ es) fs = refl

-- the first match is the first card's, and where that has none, the second's
pub first_or : (es fs : List Entry) (code byte : ℕ) → option_or (first es code byte) (first fs code byte) ≡ first (in_a_row es fs) code byte
first_or es fs code byte = sym (first-++ es fs code byte)

-- the free count is the second card's where its list has an entry, or the first has no free place
pub free_of_second : (a b : ℕ) (fs : List Entry) → no_entry fs ≡ false → free_of a b fs ≡ b
free_of_second a b [] some = absurd (true≢false some)
free_of_second a b (e ∷ fs) some = refl

pub free_of_full : (a b : ℕ) (fs : List Entry) → a ≡ 0 → free_of a b fs ≡ b
free_of_full a b [] full = omega arith
free_of_full a b (e ∷ fs) full = refl

-- an entry put last in the first card, while the second is empty
pub into_first : (e : Entry) (es later fs : List Entry) (a left b : ℕ) → no_entry fs ≡ true
    → Added e es a later left → Added e (in_a_row es fs) (free_of a b fs) (in_a_row later fs) (free_of left b fs)
into_first e es later [] a left b none added = record {
  room = omega (arith, added.room);
  last = append-nil later ∙ (added.last ∙ ap (λ (l : List Entry). l ++ e ∷ []) (sym (append-nil es)));
  taken = omega (arith, added.taken);
}
into_first e es later (f ∷ fs) a left b none added = absurd (true≢false (sym none))

-- after an append to the second card, the free count is the second card's
free_after : (a b : ℕ) (e : Entry) (fs : List Entry) → free_of a b (fs ++ e ∷ []) ≡ b
free_after a b e [] = refl
free_after a b e (f ∷ fs) = refl

-- an entry put last in the second card
pub into_second : (e : Entry) (es fs later : List Entry) (a b left : ℕ) → free_of a b fs ≡ b
    → Added e fs b later left → Added e (in_a_row es fs) (free_of a b fs) (in_a_row es later) (free_of a left later)
into_second e es fs later a b left counts added =
    let after : free_of a left later ≡ left = ap (free_of a left) added.last ∙ free_after a left e fs in
    record {
      room = omega (arith, added.room);
      last = ap (λ (l : List Entry). es ++ l) added.last ∙ sym (append_assoc es fs (e ∷ []));
      taken = omega (arith, added.taken);
    }

-- an append that is answered by Ok was accepted, any other was declined
pub accepted : {T E : Type 0} (r : Result T E) (P : Type 0) (Q : E → Type 0) → is_ok r ≡ true → MatchResult r (λ _. P) Q → P
accepted (Ok x) P Q ok told = told
accepted (Err y) P Q ok told = absurd (true≢false (sym ok))

pub declined : {T E : Type 0} (r : Result T E) (P : T → Type 0) (Q : E → Type 0) → is_ok r ≡ false → MatchResult r P Q → (why : E) × Q why
declined (Ok x) P Q bad told = absurd (true≢false bad)
declined (Err y) P Q bad told = (y, told)

-- an append to the second card of a tandem whose cards are as they were, seen as an append to the whole
module _ {A B : Type 0} (ea : A → List Entry) (fa : A → ℕ) (eb : B → List Entry) (fb : B → ℕ) (e : Entry) where
  abbrev entries_in : A → B → List Entry
  entries_in a b = in_a_row (ea a) (eb b)

  abbrev free_in : A → B → ℕ
  free_in a b = free_of (fa a) (fb b) (eb b)

  abbrev Part : Tandem A B → B → Result (Unit {0}) Refusal → Type 0
  Part t later r = MatchResult r (λ _. Added e (eb t.second) (fb t.second) (eb later) (fb later)) (λ why. Declined why (fb t.second) t.second later)

  abbrev Whole : Tandem A B → Tandem A B → B → Result (Unit {0}) Refusal → Type 0
  Whole self t later r =
      MatchResult r
      (λ _. Added e (entries_in self.first self.second) (free_in self.first self.second) (entries_in t.first later) (free_in t.first later))
      (λ why. Declined why (free_in self.first self.second) self (record { first = t.first; second = later }))

  whole : (self : Tandem A B) (later : B) (r : Result (Unit {0}) Refusal) → free_in self.first self.second ≡ fb self.second → Part self later r → Whole self self later r
  whole self later (Ok x) counts told = into_second e (ea self.first) (eb self.second) (eb later) (fa self.first) (fb self.second) (fb later) counts told
  whole self later (Err why) counts told = record {
    full = counts ∙ told.full;
    refusal = told.refusal;
    unchanged = ap (λ (b : B). record { first = self.first; second = b }) told.unchanged;
  }

  pub to_second : (self t : Tandem A B) (later : B) (r : Result (Unit {0}) Refusal) → t ≡ self → free_in self.first self.second ≡ fb self.second → Part t later r → Whole self t later r
  to_second self t later r same counts = subst (λ (t : Tandem A B). Part t later r → Whole self t later r) (sym same) (whole self later r counts)
