-- Laws of the first match: of one entry, from a place on, over a list cut in two, and where none matches.
use Rattle.std.proofs.Common.{◌≡◌, ℕ, Bool, true, false, cond, eqb, List, [], ◌∷◌, ◌++◌, Some, None, Decides, Option, refl, ap, ◌∙◌}
use lib.Bits.{bit_and}
use Rattle.std.specs.List.{find}
use Rattle.std.specs.Option.{option_map, option_or}
use Rattle.std.proofs.lemmas.Bool.Decides.{Decides-and, not_from_Decides}
use Rattle.ternary.specs.declared.entry.Entry.{Entry}
use Rattle.ternary.specs.Match.{Matches, Decision, decision, NoneMatch, IsFirst, matches, pick, first}
use Rattle.ternary.proofs.BitLaws.{masked_agrees}

-- the test says whether all compared bits agree
pub matches_decides : (e : Entry) (code byte : ℕ) → Decides (matches e code byte) (Matches e code byte)
matches_decides e code byte =
    Decides-and (eqb (bit_and code e.code_mask) e.code_value) (eqb (bit_and byte e.byte_mask) e.byte_value)
    (masked_agrees e.code_value e.code_mask code e.code_clear)
    (masked_agrees e.byte_value e.byte_mask byte e.byte_clear)

-- what the first match decides, as a search that ends at the first entry that passes the test
pub first_found : (es : List Entry) (code byte : ℕ) → option_map decision (find (λ e. matches e code byte) es) ≡ first es code byte
first_found [] code byte = refl
first_found (e ∷ es) code byte =
    elim (matches e code byte) as (λ m. option_map decision (cond m (Some e) (find (λ x. matches x code byte) es)) ≡ pick m e (first es code byte))
    [ true ↦ refl | false ↦ first_found es code byte ]

-- over a list cut in two
pub first-++ : (es fs : List Entry) (code byte : ℕ) → first (es ++ fs) code byte ≡ option_or (first es code byte) (first fs code byte)
first-++ [] fs code byte = refl
first-++ (e ∷ es) fs code byte =
    elim (matches e code byte) as (λ m. pick m e (first (es ++ fs) code byte) ≡ option_or (pick m e (first es code byte)) (first fs code byte))
    [ true ↦ refl | false ↦ first-++ es fs code byte ]

-- one entry before a list of which the answer is known
module _ (e : Entry) (es : List Entry) (code byte : ℕ) where
  is_first_pick : (m : Bool) → matches e code byte ≡ m → (r : Option Decision) → IsFirst es code byte r → IsFirst (e ∷ es) code byte (pick m e r)
  is_first_pick true m r known = ([], e, es, refl, tt, (matches_decides e code byte).0 m, refl)
  is_first_pick false m None known = (not_from_Decides (matches e code byte) (matches_decides e code byte) m, known)
  is_first_pick false m (Some d) known = (
    e ∷ known.0,
    known.1,
    known.2,
    ap (λ (l : List Entry). e ∷ l) known.3,
    (not_from_Decides (matches e code byte) (matches_decides e code byte) m, known.4),
    known.5,
    known.6,
  )

-- the computed answer is the first match
pub first_is_first : (es : List Entry) (code byte : ℕ) → IsFirst es code byte (first es code byte)
first_is_first [] code byte = tt
first_is_first (e ∷ es) code byte = is_first_pick e es code byte (matches e code byte) refl (first es code byte) (first_is_first es code byte)

no_match : {P : Type 0} (m : Bool) → Decides m P → (P → ⊥) → m ≡ false
no_match true d h = absurd (h (d.0 refl))
no_match false d h = refl

-- where none matches there is no answer
pub first_none : (es : List Entry) (code byte : ℕ) → NoneMatch es code byte → first es code byte ≡ None
first_none [] code byte none = refl
first_none (e ∷ es) code byte none =
    ap (λ (m : Bool). pick m e (first es code byte)) (no_match (matches e code byte) (matches_decides e code byte) none.0)
    ∙ first_none es code byte none.1
