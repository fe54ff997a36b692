-- Laws of the first match over a code and two bytes.
use Rattle.std.proofs.Common.{◌≡◌, ℕ, Bool, true, false, cond, eqb, List, [], ◌∷◌, ◌++◌, Some, None, Decides, Option, refl, ap, ◌∙◌}
use lib.Bits.{bit_and}
use Rattle.std.specs.List.{find}
use Rattle.std.specs.Option.{option_map, option_or}
use Rattle.std.proofs.lemmas.Bool.Decides.{Decides-and, not_from_Decides}
use Rattle.ternary.specs.Match as one
use Rattle.ternary.proofs.BitLaws.{masked_agrees}
use Rattle.ternary.proofs.FirstMatch as single
use Rattle.pairs.specs.declared.pair.PairEntry.{PairEntry}
use Rattle.pairs.specs.Match.{Matches, Decision, decision, NoneMatch, IsFirst, matches, pick, first}

-- the test says whether all compared bits agree
pub matches_decides : (e : PairEntry) (code byte second : ℕ) → Decides (matches e code byte second) (Matches e code byte second)
matches_decides e code byte second =
    Decides-and (one.matches e.entry code byte) (eqb (bit_and second e.second_mask) e.second_value)
    (single.matches_decides e.entry code byte)
    (masked_agrees e.second_value e.second_mask second e.second_clear)

-- what the first match decides, as a search that ends at the first entry that passes the test
pub first_found : (es : List PairEntry) (code byte second : ℕ) → option_map decision (find (λ e. matches e code byte second) es) ≡ first es code byte second
first_found [] code byte second = refl
first_found (e ∷ es) code byte second =
    elim (matches e code byte second) as (λ m. option_map decision (cond m (Some e) (find (λ x. matches x code byte second) es)) ≡ pick m e (first es code byte second))
    [ true ↦ refl | false ↦ first_found es code byte second ]

-- over a list cut in two
pub first-++ : (es fs : List PairEntry) (code byte second : ℕ) → first (es ++ fs) code byte second ≡ option_or (first es code byte second) (first fs code byte second)
first-++ [] fs code byte second = refl
first-++ (e ∷ es) fs code byte second =
    elim (matches e code byte second) as (λ m. pick m e (first (es ++ fs) code byte second) ≡ option_or (pick m e (first es code byte second)) (first fs code byte second))
    [ true ↦ refl | false ↦ first-++ es fs code byte second ]

-- one entry before a list of which the answer is known
module _ (e : PairEntry) (es : List PairEntry) (code byte second : ℕ) where
  is_first_pick : (m : Bool) → matches e code byte second ≡ m → (r : Option Decision) → IsFirst es code byte second r → IsFirst (e ∷ es) code byte second (pick m e r)
  is_first_pick true m r known = ([], e, es, refl, tt, (matches_decides e code byte second).0 m, refl)
  is_first_pick false m None known = (not_from_Decides (matches e code byte second) (matches_decides e code byte second) m, known)
  is_first_pick false m (Some d) known = (
    e ∷ known.0,
    known.1,
    known.2,
    ap (λ (l : List PairEntry). e ∷ l) known.3,
    (not_from_Decides (matches e code byte second) (matches_decides e code byte second) m, known.4),
    known.5,
    known.6,
  )

-- the computed answer is the first match
pub first_is_first : (es : List PairEntry) (code byte second : ℕ) → IsFirst es code byte second (first es code byte second)
first_is_first [] code byte second = tt
first_is_first (e ∷ es) code byte second = is_first_pick e es code byte second (matches e code byte second) refl (first es code byte second) (first_is_first es code byte second)
