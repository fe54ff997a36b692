-- The height of a forest, from the places of its states. Assumes nothing.
use Rattle.std.proofs.Common.{◌≡◌, ℕ, zero, suc, ◌+◌, max, List, map, refl, sym, ap, ◌∙◌, add-one, arith}
use Rattle.std.specs.List.{fold, range_with_len}
use Rattle.std.proofs.lemmas.List.FromFn.{map-range_with_len_more}
use Rattle.std.proofs.lemmas.List.Sums.{fold_push}
use Rattle.forest.specs.declared.plan.Placement.{Placement}
use Rattle.forest.specs.Forest.{Forest}
use Rattle.forest.specs.Plan.{placement_of}
use Rattle.forest.specs.Table.{height}

-- the height that a place asks for
abbrev pub higher : ℕ → Placement → ℕ
higher most p = max most (p.depth + 1)

-- the most that the places of the first states ask for
height_folded : (f : Forest) (n : ℕ) → fold higher 0 (map (placement_of f) (range_with_len 0 n)) ≡ height f n
height_folded f zero = refl
height_folded f (suc n) =
    let before = map (placement_of f) (range_with_len 0 n) in
    ap (λ (k : ℕ). fold higher 0 (map (placement_of f) (range_with_len 0 k))) (sym (add-one n))
    ∙ ap (fold higher 0) (map-range_with_len_more (placement_of f) 0 n n (omega arith))
    ∙ fold_push higher 0 before (placement_of f n)
    ∙ (λ i. max (height_folded f n i) (add-one (f.depth n) i))

pub height_of : (f : Forest) (n : ℕ) (places : List Placement) → places ≡ map (placement_of f) (range_with_len 0 n) → fold higher 0 places ≡ height f n
height_of f n places are = ap (fold higher 0) are ∙ height_folded f n
