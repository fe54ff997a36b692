-- The lines of a plan, one state after another.
use Rattle.std.proofs.Common.{◌≡◌, ℕ, ◌+◌, List, ◌++◌, sym, ap, ◌∙◌, append_assoc, add-one}
use Rattle.forest.specs.Forest.{Forest}
use Rattle.forest.specs.Plan.{placement_of}
use Rattle.printed.specs.Lines.{state_text, ended, states_text}

-- one line more
pub states_more : (f : Forest) (n : ℕ) (head done line after : List ℕ) → done ≡ head ++ states_text f n → line ≡ ended (state_text f.width n (placement_of f n)) → after ≡ done ++ line → after ≡ head ++ states_text f (n + 1)
states_more f n head done line after before here written =
    let last : List ℕ = ended (state_text f.width n (placement_of f n)) in
    written ∙ ((λ i. before i ++ here i) ∙ (append_assoc head (states_text f n) last ∙ ap (λ (k : ℕ). head ++ states_text f k) (sym (add-one n))))
