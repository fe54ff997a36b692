-- A check has one answer: what is accepted is not refused, and a refusal has one number and one list of values.
use Rattle.std.proofs.Common.{◌≡◌, ℕ, List, [], ◌∷◌, is_ok, Some, None, Ok, Err, Decides, Option, Result, sym, refl, ap, subst, inl, inr, arith}
use Rattle.std.proofs.lemmas.Bool.{cases_order, false≢true}
use Rattle.pairs.specs.declared.pair.PairEntry.{PairEntry}
use Rattle.ternary.specs.declared.refusal.Refusal.{Refusal}
use Rattle.ternary.specs.declared.words.StateCode.{StateCode}
use Rattle.ternary.specs.Refusals.{number, values}
use Rattle.ternary.proofs.Telling.{known_one}
use Rattle.automaton.specs.Limits.{Handed}
use Rattle.automaton.specs.Runs.{Dfa}
use Rattle.pairs.specs.Carries.{Right}
use Rattle.pair_table.specs.Acceptance.{Acceptable, Checked, FirstWrong, OnlyAnswer, Refuses, beyond, malformed, differs, wrong}

-- an option is not both some and none
some_not_none : (o : Option ℕ) (x : ℕ) → o ≡ Some x → o ≡ None → ⊥
some_not_none o x p q = let z : ◌≡◌ {A = ℕ} 0 1 = cc in omega arith

some_one : (o : Option ℕ) (x y : ℕ) → o ≡ Some x → o ≡ Some y → x ≡ y
some_one o x y p q = cc

-- what is accepted is not refused
pub not_refused : (a : Handed) (bytes : List ℕ) (n : ℕ) (vs : List ℕ) → Acceptable a bytes → Refuses a bytes n vs → ⊥
not_refused a bytes n vs accepted (beyond non) = non accepted.within
not_refused a bytes n vs accepted (malformed at within found) = some_not_none _ at found accepted.sound
not_refused a bytes n vs accepted (differs within sound non) = non accepted.agree
not_refused a bytes n vs accepted (wrong s b c within sound agree place) = place.wrong (accepted.carries s place.state b place.byte c place.second)

module _ (a : Dfa) (code : ℕ → StateCode) (es : List PairEntry) (s b x t c y : ℕ) (p : FirstWrong a code es s b x) (q : FirstWrong a code es t c y) where
  -- there is one lowest state at which entries go wrong
  same_state : s ≡ t
  same_state =
      elim (cases_order s t) [
        | inl same ↦ same
        | inr apart ↦ elim apart [
          | inl lower ↦ absurd (p.wrong (q.lower_states s lower b p.byte x p.second))
          | inr higher ↦ absurd (q.wrong (p.lower_states t higher c q.byte y q.second))
        ]
      ]

  -- at that state one lowest first byte
  same_byte : b ≡ c
  same_byte =
      elim (cases_order b c) [
        | inl same ↦ same
        | inr apart ↦ elim apart [
          | inl lower ↦ absurd (p.wrong (subst (λ (n : ℕ). Right a code es n b x) (sym same_state) (q.lower_bytes b lower x p.second)))
          | inr higher ↦ absurd (q.wrong (subst (λ (n : ℕ). Right a code es n c y) same_state (p.lower_bytes c higher y q.second)))
        ]
      ]

  -- and after that byte one lowest second
  same_second : x ≡ y
  same_second =
      elim (cases_order x y) [
        | inl same ↦ same
        | inr apart ↦ elim apart [
          | inl lower ↦ absurd (p.wrong (subst (λ (n : ℕ). Right a code es n b x) (sym same_state) (subst (λ (n : ℕ). Right a code es t n x) (sym same_byte) (q.lower_seconds x lower))))
          | inr higher ↦ absurd (q.wrong (subst (λ (n : ℕ). Right a code es n c y) same_state (subst (λ (n : ℕ). Right a code es s n y) same_byte (p.lower_seconds y higher))))
        ]
      ]

-- a refusal has one number and one list of values
pub one_refusal : (a : Handed) (bytes : List ℕ) (n m : ℕ) (vs ws : List ℕ) → Refuses a bytes n vs → Refuses a bytes m ws → (n ≡ m) × (vs ≡ ws)
one_refusal a bytes n m vs ws (beyond non) (beyond non') = (refl, refl)
one_refusal a bytes n m vs ws (beyond non) (malformed at within found) = absurd (non within)
one_refusal a bytes n m vs ws (beyond non) (differs within sound non') = absurd (non within)
one_refusal a bytes n m vs ws (beyond non) (wrong s b z within sound agree place) = absurd (non within)
one_refusal a bytes n m vs ws (malformed at within found) (beyond non) = absurd (non within)
one_refusal a bytes n m vs ws (malformed at within found) (malformed at' within' found') = (refl, ap (λ (x : ℕ). x ∷ []) (some_one _ at at' found found'))
one_refusal a bytes n m vs ws (malformed at within found) (differs within' sound non) = absurd (some_not_none _ at found sound)
one_refusal a bytes n m vs ws (malformed at within found) (wrong s b z within' sound agree place) = absurd (some_not_none _ at found sound)
one_refusal a bytes n m vs ws (differs within sound non) (beyond non') = absurd (non' within)
one_refusal a bytes n m vs ws (differs within sound non) (malformed at within' found) = absurd (some_not_none _ at found sound)
one_refusal a bytes n m vs ws (differs within sound non) (differs within' sound' non') = (refl, refl)
one_refusal a bytes n m vs ws (differs within sound non) (wrong s b z within' sound' agree place) = absurd (non agree)
one_refusal a bytes n m vs ws (wrong s b z within sound agree place) (beyond non) = absurd (non within)
one_refusal a bytes n m vs ws (wrong s b z within sound agree place) (malformed at within' found) = absurd (some_not_none _ at found sound)
one_refusal a bytes n m vs ws (wrong s b z within sound agree place) (differs within' sound' non) = absurd (non agree)
one_refusal a bytes n m vs ws (wrong s b z within sound agree place) (wrong t c w within' sound' agree' place') = (
  refl,
  λ i. same_state _ _ _ s b z t c w place place' i ∷ same_byte _ _ _ s b z t c w place place' i ∷ same_second _ _ _ s b z t c w place place' i ∷ [],
)

-- a check has one answer
pub one_answer : (a : Handed) (bytes : List ℕ) (r q : Result (Unit {0}) Refusal) → Checked a bytes r → Checked a bytes q → r ≡ q
one_answer a bytes (Ok u) (Ok v) accepted again = refl
one_answer a bytes (Ok u) (Err why) accepted refuses = absurd (not_refused a bytes _ _ accepted refuses)
one_answer a bytes (Err why) (Ok v) refuses accepted = absurd (not_refused a bytes _ _ accepted refuses)
one_answer a bytes (Err why) (Err other) refuses again =
    ap Err (known_one why other (one_refusal a bytes (number why) (number other) (values why) (values other) refuses again))

-- no answer is right but the one given
pub checked_only : (a : Handed) (bytes : List ℕ) (r : Result (Unit {0}) Refusal) → Checked a bytes r → OnlyAnswer a bytes r
checked_only a bytes r answer other again = one_answer a bytes other r again answer

-- a check accepts exactly what is acceptable
pub checked_exact : (a : Handed) (bytes : List ℕ) (r : Result (Unit {0}) Refusal) → Checked a bytes r → Decides (is_ok r) (Acceptable a bytes)
checked_exact a bytes (Ok u) accepted = (λ _. accepted, λ _. refl)
checked_exact a bytes (Err why) refuses = (λ e. absurd (false≢true e), λ accepted. absurd (not_refused a bytes _ _ accepted refuses))
