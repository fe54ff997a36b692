-- What the calls of a commission say of lent slices, said of what is filed.
use Rattle.std.proofs.Common.{◌≡◌, ℕ, List, take, IfOk, Ok, Err, Result, subst, sym, ap, ◌∙◌}
use Rattle.ternary.specs.declared.refusal.Refusal.{Refusal}
use Rattle.automaton.specs.Limits.{Handed, dfa}
use Rattle.image.specs.Format.{Parts, decode}
use Rattle.builder.specs.Build as one_build
use Rattle.pair_image.specs.Format as pair
use Rattle.pair_builder.specs.Build as two_build
use Rattle.pair_scanner.specs.Book.{SameCodes}

-- of an equal automaton and an equal image
pub for_image : (P : Handed → List ℕ → Type 0) (a b : Handed) (xs ys : List ℕ) → b ≡ a → ys ≡ xs → P b ys → P a xs
for_image P a b xs ys same_a same_xs p = subst (λ (x : Handed). P x xs) same_a (subst (P b) same_xs p)

-- two images that were built agree
codes_agree : (a : Handed) (p : pair.Parts) (q : Parts) → two_build.OverChosen (dfa a) p → one_build.OverShortest (dfa a) q → SameCodes p q
codes_agree a p q two one = (
  ap (λ (x : pair.Parts). x.width) two.over ∙ sym (ap (λ (x : Parts). x.width) one.over),
  ap (λ (x : pair.Parts). x.codes) two.over ∙ sym (ap (λ (x : Parts). x.codes) one.over),
)

pub both_agree : (a : Handed) (two one : List ℕ) (r q : Result ℕ Refusal) → IfOk r (λ n. two_build.OverChosen (dfa a) (pair.decode (take n two))) → IfOk q (λ m. one_build.OverShortest (dfa a) (decode (take m one)))
    → IfOk r (λ n. IfOk q (λ m. SameCodes (pair.decode (take n two)) (decode (take m one))))
both_agree a two one (Ok n) (Ok m) x y = codes_agree a (pair.decode (take n two)) (decode (take m one)) x y
both_agree a two one (Ok n) (Err why) x y = tt
both_agree a two one (Err why) q x y = tt
