-- First bytes that one entry settles, and first bytes that are alike. Assumes nothing.
use Rattle.std.proofs.Common.{◌≡◌, ℕ, Bool, true, false, ◌&&◌, eqb, List, [], ◌∷◌, Some, None, Option, cond, refl, sym, ap, ◌∙◌, subst}
use Rattle.std.proofs.Math.Bool.{beq}
use Rattle.std.proofs.lemmas.Option.{none-some, cond_some}
use Rattle.std.proofs.lemmas.Bool.{eq-eqb, and_parts, false≢true}
use Rattle.std.specs.List.{find, list_all}
use lib.Bits.{bit_and, and_zero_r}
use Rattle.ternary.specs.Match as one
use Rattle.ternary.specs.declared.words.StateCode.{StateCode}
use Rattle.automaton.specs.Runs.{Dfa}
use Rattle.pairs.specs.declared.stride.Stride.TheVariants.{One, Two}
use Rattle.pairs.specs.declared.pair.PairEntry.{PairEntry}
use Rattle.pairs.specs.Match.{Decision, decision, matches, first, pick}
use Rattle.pairs.specs.Carries.{RightStep, reached, PassesNoMark}
use Rattle.pair_table.specs.Steps.{accepts_byte, alike, Leads, RightAt}

-- an entry that compares no bit of the second byte agrees with it
any_second : (e : PairEntry) (c : ℕ) → e.second_mask ≡ 0 → eqb (bit_and c e.second_mask) e.second_value ≡ true
any_second e c none =
    let value : e.second_value ≡ 0 = sym e.second_clear ∙ (ap (bit_and e.second_value) none ∙ and_zero_r e.second_value) in
    let key : bit_and c e.second_mask ≡ 0 = ap (bit_and c) none ∙ and_zero_r c in
    eq-eqb (bit_and c e.second_mask) e.second_value (key ∙ sym value)

-- if it is the first one that matches the code and the first byte, it is the first match
first_settled : (es : List PairEntry) (code b c : ℕ) (e : PairEntry) → find (λ x. one.matches x.entry code b) es ≡ Some e → e.second_mask ≡ 0 → first es code b c ≡ Some (decision e)
first_settled [] code b c e found none = absurd (none-some e found)
first_settled (x ∷ es) code b c e found none =
    elim (one.matches x.entry code b) as (λ m. cond m (Some x) (find (λ y. one.matches y.entry code b) es) ≡ Some e → pick (m && eqb (bit_and c x.second_mask) x.second_value) x (first es code b c) ≡ Some (decision e)) [
      | true ↦ (λ is.
          let same = (cond_some true x e is).1 in
          ap (λ m. pick m x (first es code b c)) (any_second x c (ap (λ (y : PairEntry). y.second_mask) same ∙ none)) ∙ ap (λ (y : PairEntry). Some (decision y)) same)
      | false ↦ (λ is. first_settled es code b c e is none)
    ] found

-- and settles the first byte, if it takes this byte alone and leads where that does
pub settled : (a : Dfa) (code : ℕ → StateCode) (es : List PairEntry) (s b : ℕ) (e : PairEntry) →
    find (λ x. one.matches x.entry (code s).0 b) es ≡ Some e → e.second_mask ≡ 0 → e.stride ≡ One → Leads a code s b e.entry → RightAt a code es s b
settled a code es s b e found none alone leads =
    λ c below. subst (RightStep a code s b c) (sym (first_settled es (code s).0 b c e found none))
    (subst (λ t. (e.entry.next ≡ code (reached a s b c t)) × (e.entry.class ≡ a.class (reached a s b c t)) × PassesNoMark a s b t) (sym alone) (leads.0, leads.1, tt))

same_truth : (x y : Bool) → beq x y ≡ true → x ≡ y
same_truth true true e = refl
same_truth false false e = refl
same_truth true false e = absurd (false≢true e)
same_truth false true e = absurd (false≢true e)

-- where each entry matches both of two first bytes or neither, the first match is the same
first_alike : (es : List PairEntry) (code b d c : ℕ) → list_all (alike b d) es ≡ true → first es code b c ≡ first es code d c
first_alike [] code b d c all = refl
first_alike (e ∷ es) code b d c all =
    let parts = and_parts (beq (accepts_byte b e) (accepts_byte d e)) (list_all (alike b d) es) all in
    ap (λ t. pick ((eqb (bit_and code e.entry.code_mask) e.entry.code_value && t) && eqb (bit_and c e.second_mask) e.second_value) e (first es code b c)) (same_truth (accepts_byte b e) (accepts_byte d e) parts.0)
    ∙ ap (pick (matches e code d c) e) (first_alike es code b d c parts.1)

same_step : (a : Dfa) (code : ℕ → StateCode) (s b d c : ℕ) → a.next s b ≡ a.next s d → (o : Option Decision) → RightStep a code s d c o → RightStep a code s b c o
same_step a code s b d c to None right = right
same_step a code s b d c to (Some (next, class, One)) right = (right.0 ∙ ap code (sym to), right.1 ∙ ap a.class (sym to), tt)
same_step a code s b d c to (Some (next, class, Two)) right =
    (right.0 ∙ ap (λ t. code (a.next t c)) (sym to), right.1 ∙ ap (λ t. a.class (a.next t c)) (sym to), ap a.class to ∙ right.2)

-- so a state that goes on alike from both is carried at one if it is at the other
pub carried_alike : (a : Dfa) (code : ℕ → StateCode) (es : List PairEntry) (s b d : ℕ) →
    a.next s b ≡ a.next s d → list_all (alike b d) es ≡ true → RightAt a code es s d → RightAt a code es s b
carried_alike a code es s b d to all right =
    λ c below. same_step a code s b d c to (first es (code s).0 b c)
    (subst (RightStep a code s d c) (sym (first_alike es (code s).0 b d c all)) (right c below))
