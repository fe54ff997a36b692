-- Words as they are printed, one place after another.
use Rattle.std.proofs.Common.{◌≡◌, ℕ, zero, suc, ◌-◌, ◌<◌, Bool, List, [], ◌∷◌, ◌++◌, IfOk, Ok, Err, Option, Result, sym, ap, ◌∙◌, append_assoc, arith}
use Rattle.ternary.specs.Bits.{bit}
use Rattle.printed.specs.Lines.{symbol, compares, places}

-- the highest of the places that are left
places_less : (p value : ℕ) (mask : Option ℕ) → 0 < p → places p value mask ≡ symbol (compares mask (p - 1)) (bit value (p - 1)) ∷ places (p - 1) value mask
places_less zero value mask h = absurd (omega arith)
places_less (suc p) value mask h = ap (λ (q : ℕ). symbol (compares mask q) (bit value q) ∷ places q value mask) (let same : p ≡ suc p - 1 = omega arith in same)

-- it goes from what is left to what is written
pub places_more : (done after encoded whole : List ℕ) (p value : ℕ) (mask : Option ℕ) (compared set : Bool) (c : ℕ) →
    0 < p → done ++ places p value mask ≡ whole →
    after ≡ done ++ encoded → encoded ≡ c ∷ [] → c ≡ symbol compared set → compared ≡ compares mask (p - 1) → set ≡ bit value (p - 1) →
    after ++ places (p - 1) value mask ≡ whole
places_more done after encoded whole p value mask compared set c h is written one spelt read seen =
    let left : List ℕ = places (p - 1) value mask in
    let here : ℕ = symbol (compares mask (p - 1)) (bit value (p - 1)) in
    let one_more : encoded ≡ here ∷ [] = one ∙ (λ i. (spelt ∙ (λ j. symbol (read j) (seen j))) i ∷ []) in
    ap (λ (bs : List ℕ). bs ++ left) (written ∙ ap (λ (bs : List ℕ). done ++ bs) one_more)
    ∙ (append_assoc done (here ∷ []) left ∙ (ap (λ (bs : List ℕ). done ++ bs) (sym (places_less p value mask h)) ∙ is))

-- text that was made, told in another way
pub made_as : {X E : Type 0} (bytes : X → List ℕ) (r : Result X E) (told wanted : List ℕ) → IfOk r (λ s. bytes s ≡ told) → told ≡ wanted → IfOk r (λ s. bytes s ≡ wanted)
made_as bytes (Ok s) told wanted e same = e ∙ same
made_as bytes (Err e) told wanted _ same = tt
