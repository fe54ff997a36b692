-- The entries in the first places of a buffer.
use Rattle.std.proofs.Common.{◌≡◌, ℕ, zero, suc, ◌+◌, ◌-◌, ◌<◌, min, eqb, List, [], ◌∷◌, ◌++◌, length, take, set, sym, refl, ap, ◌∙◌, arith}
use Rattle.std.proofs.lemmas.List.{length-take, length-set, take_more_set}
use Rattle.std.proofs.lemmas.Bool.{ne_eqb}
use Rattle.pairs.specs.declared.pair.PairEntry.{PairEntry}
use Rattle.pairs.specs.Cards.{no_entry, Added}

-- the first n entries, counted
counted : (n : ℕ) (es : List PairEntry) → take (length (take n es)) es ≡ take n es
counted zero es = refl
counted (suc n) [] = refl
counted (suc n) (e ∷ es) = ap (λ (l : List PairEntry). e ∷ l) (counted n es)

pub take_count : (n count : ℕ) (es : List PairEntry) → count ≡ min n (length es) → take count es ≡ take n es
take_count n count es counts = ap (λ k. take k es) (counts ∙ sym (length-take n es)) ∙ counted n es

-- a list has no entry exactly when it counts 0
none_counted : (es : List PairEntry) → eqb (length es) 0 ≡ no_entry es
none_counted [] = refl
none_counted (e ∷ es) = ne_eqb (suc (length es)) 0 (λ z. omega arith)

pub none_in_use : (n count : ℕ) (es : List PairEntry) → count ≡ min n (length es) → eqb count 0 ≡ no_entry (take n es)
none_in_use n count es counts = ap (λ k. eqb k 0) (counts ∙ sym (length-take n es)) ∙ none_counted (take n es)

-- an entry written behind those in use
pub added_behind : (e : PairEntry) (buffer : List PairEntry) (used count : ℕ) → count ≡ min used (length buffer) → (count ≡ length buffer → ⊥)
    → Added e (take used buffer) (length buffer - used) (take (count + 1) (set buffer count e)) (length (set buffer count e) - (count + 1))
added_behind e buffer used count counts room =
    let free : count < length buffer = omega arith in
    record {
      room = omega arith;
      last = take_more_set buffer count e free ∙ ap (λ (l : List PairEntry). l ++ e ∷ []) (take_count used count buffer counts);
      taken = simp length-set (omega arith);
    }
