-- The entries that match a code, or a first byte, decide for it as all entries do. Assumes nothing.
use Rattle.std.proofs.Common.{◌≡◌, ℕ, Bool, true, false, ◌&&◌, eqb, List, [], ◌∷◌, filter, Some, None, Option, cond, refl, sym, ap, ◌∙◌, subst}
use lib.Bits.{bit_and}
use Rattle.ternary.specs.declared.words.StateCode.{StateCode}
use Rattle.automaton.specs.Runs.{Dfa}
use Rattle.pairs.specs.declared.pair.PairEntry.{PairEntry}
use Rattle.pairs.specs.Match.{matches, first, pick}
use Rattle.pairs.specs.Carries.{Right, RightStep}
use Rattle.pair_table.specs.Steps.{accepts_code, accepts_byte, WrongSecond, WrongBytes}

-- entries that are left out match nothing that is asked
first_kept : (p : PairEntry → Bool) (code b c : ℕ) → ((e : PairEntry) → p e ≡ false → matches e code b c ≡ false) → (es : List PairEntry) → first (filter p es) code b c ≡ first es code b c
first_kept p code b c drop [] = refl
first_kept p code b c drop (e ∷ es) =
    let later = first_kept p code b c drop es in
    elim (p e) as (λ t. p e ≡ t → first (cond t (e ∷ filter p es) (filter p es)) code b c ≡ pick (matches e code b c) e (first es code b c)) [
      | true ↦ (λ is. ap (pick (matches e code b c) e) later)
      | false ↦ (λ is. later ∙ ap (λ m. pick m e (first es code b c)) (sym (drop e is)))
    ] refl

not_code : (code b c : ℕ) (e : PairEntry) → accepts_code code e ≡ false → matches e code b c ≡ false
not_code code b c e no_code = ap (λ t. (t && eqb (bit_and b e.entry.byte_mask) e.entry.byte_value) && eqb (bit_and c e.second_mask) e.second_value) no_code

and_no : (x : Bool) → x && false ≡ false
and_no true = refl
and_no false = refl

not_byte : (code b c : ℕ) (e : PairEntry) → accepts_byte b e ≡ false → matches e code b c ≡ false
not_byte code b c e no_byte =
    ap (λ t. (eqb (bit_and code e.entry.code_mask) e.entry.code_value && t) && eqb (bit_and c e.second_mask) e.second_value) no_byte
    ∙ ap (λ t. t && eqb (bit_and c e.second_mask) e.second_value) (and_no (eqb (bit_and code e.entry.code_mask) e.entry.code_value))

pub first_of_code : (es : List PairEntry) (code b c : ℕ) → first (filter (accepts_code code) es) code b c ≡ first es code b c
first_of_code es code b c = first_kept (accepts_code code) code b c (not_code code b c) es

pub first_of_byte : (es : List PairEntry) (code b c : ℕ) → first (filter (accepts_byte b) es) code b c ≡ first es code b c
first_of_byte es code b c = first_kept (accepts_byte b) code b c (not_byte code b c) es

-- so what is wrong for a code or a first byte is the same among them
module _ (a : Dfa) (code : ℕ → StateCode) (fs es : List PairEntry) (s : ℕ) where
  to : (b c : ℕ) → first fs (code s).0 b c ≡ first es (code s).0 b c → Right a code fs s b c → Right a code es s b c
  to b c same right = subst (RightStep a code s b c) same right

  back : (b c : ℕ) → first fs (code s).0 b c ≡ first es (code s).0 b c → Right a code es s b c → Right a code fs s b c
  back b c same right = subst (RightStep a code s b c) (sym same) right

  second_same : (b : ℕ) → ((c : ℕ) → first fs (code s).0 b c ≡ first es (code s).0 b c) → (r : Option ℕ) → WrongSecond a code fs s b r → WrongSecond a code es s b r
  second_same b same None right = λ c lt. to b c (same c) (right c lt)
  second_same b same (Some c) (inside, wrong, lower) = (inside, (λ right. wrong (back b c (same c) right)), (λ y lt. to b y (same y) (lower y lt)))

  bytes_same : ((b c : ℕ) → first fs (code s).0 b c ≡ first es (code s).0 b c) → (r : Option (ℕ × ℕ)) → WrongBytes a code fs s r → WrongBytes a code es s r
  bytes_same same None right = λ b lt c lt2. to b c (same b c) (right b lt c lt2)
  bytes_same same (Some (b, c)) (inside, wrong, lower) = (inside, second_same b (same b) (Some c) wrong, (λ x lt y lt2. to x y (same x y) (lower x lt y lt2)))

pub wrong_at : (a : Dfa) (code : ℕ → StateCode) (es : List PairEntry) (s b : ℕ) (r : Option ℕ) → WrongSecond a code (filter (accepts_byte b) es) s b r → WrongSecond a code es s b r
wrong_at a code es s b r w = second_same a code (filter (accepts_byte b) es) es s b (λ c. first_of_byte es (code s).0 b c) r w

pub wrong_of : (a : Dfa) (code : ℕ → StateCode) (es : List PairEntry) (s : ℕ) (r : Option (ℕ × ℕ)) → WrongBytes a code (filter (accepts_code (code s).0) es) s r → WrongBytes a code es s r
wrong_of a code es s r w = bytes_same a code (filter (accepts_code (code s).0) es) es s (λ b c. first_of_code es (code s).0 b c) r w
