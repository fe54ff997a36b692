-- The entries that match a code, up to the first that matches every byte, decide for it as all entries do.
use Rattle.std.proofs.Common.{◌≡◌, ℕ, Bool, true, false, ◌&&◌, eqb, List, [], ◌∷◌, Some, None, Option, cond, refl, sym, ap, ◌∙◌}
use lib.Bits.{bit_and}
use Rattle.std.specs.Int.Bits.{and_zero_r}
use Rattle.std.proofs.lemmas.Bool.{eqb-true, eq-eqb}
use Rattle.ternary.specs.declared.entry.Entry.{Entry}
use Rattle.ternary.specs.declared.words.StateCode.{StateCode}
use Rattle.ternary.specs.Match.{first, pick}
use Rattle.automaton.specs.Runs.{Dfa}
use Rattle.table.specs.Steps.{accepts, deciding, WrongByte}

-- an entry that compares no bit of a byte matches every byte
any_byte : (e : Entry) (byte : ℕ) → eqb e.byte_mask 0 ≡ true → eqb (bit_and byte e.byte_mask) e.byte_value ≡ true
any_byte e byte is =
    let none : e.byte_mask ≡ 0 = eqb-true e.byte_mask 0 is in
    let clear : e.byte_value ≡ 0 = sym e.byte_clear ∙ (ap (bit_and e.byte_value) none ∙ and_zero_r e.byte_value) in
    eq-eqb (bit_and byte e.byte_mask) e.byte_value (ap (bit_and byte) none ∙ (and_zero_r byte ∙ sym clear))

-- behind an entry that matches a code, of which it is known whether it matches every byte
module _ (e : Entry) (es own : List Entry) (code byte : ℕ) (later : first own code byte ≡ first es code byte) where
  first_behind : (every : Bool) → eqb e.byte_mask 0 ≡ every → pick (eqb (bit_and byte e.byte_mask) e.byte_value) e (first (cond every [] own) code byte) ≡ pick (eqb (bit_and byte e.byte_mask) e.byte_value) e (first es code byte)
  first_behind true is = ap (λ t. pick t e None) (any_byte e byte is) ∙ sym (ap (λ t. pick t e (first es code byte)) (any_byte e byte is))
  first_behind false is = ap (pick (eqb (bit_and byte e.byte_mask) e.byte_value) e) later

pub first_deciding : (es : List Entry) (code byte : ℕ) → first (deciding code es) code byte ≡ first es code byte
first_deciding [] code byte = refl
first_deciding (e ∷ es) code byte =
    let later = first_deciding es code byte in
    let rest = cond (eqb e.byte_mask 0) [] (deciding code es) in
    elim (accepts code e) as (λ t. accepts code e ≡ t → first (cond t (e ∷ rest) (deciding code es)) code byte ≡ pick (t && eqb (bit_and byte e.byte_mask) e.byte_value) e (first es code byte)) [
      | true ↦ (λ is. ap (λ t. pick (t && eqb (bit_and byte e.byte_mask) e.byte_value) e (first rest code byte)) is ∙ first_behind e es (deciding code es) code byte later (eqb e.byte_mask 0) refl)
      | false ↦ (λ is. later)
    ] refl

-- so what is wrong for a code is the same among them
module _ (a : Dfa) (code : ℕ → StateCode) (es : List Entry) (s : ℕ) where
  pub wrong_byte : (r : Option ℕ) → WrongByte a code (deciding (code s).0 es) s r → WrongByte a code es s r
  wrong_byte None right = λ b lt. sym (first_deciding es (code s).0 b) ∙ right b lt
  wrong_byte (Some b) (inside, wrong, lower) =
      (inside, (λ right. wrong (first_deciding es (code s).0 b ∙ right)), (λ c lt. sym (first_deciding es (code s).0 c) ∙ lower c lt))
