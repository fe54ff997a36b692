-- The index over the states: what a set that is entered changes.
use Rattle.std.proofs.Common.{◌≡◌, ℕ, ◌<◌, List, length, get_or, replicate, refl, arith}
use Rattle.std.proofs.lemmas.List.{get_or-replicate}
use Rattle.positions.specs.declared.set.Set.{Set}
use Rattle.positions.specs.Sets.{in_set}
use Rattle.positions.proofs.SetLemmas.{same-word, same-set}
use Rattle.subsets.specs.Buckets.{IsFourWords}
use Rattle.subsets.specs.Index.{IsIndexed}

-- sets with the same positions are one
pub one-set : (s t : Set) → IsFourWords s → IsFourWords t → ((p : ℕ) → p < 256 → in_set s p ≡ in_set t p) → s ≡ t
one-set s t x y same =
    let each : (j : ℕ) → j < 4 → get_or s.words j 0 ≡ get_or t.words j 0 = λ j h. same-word s t j h (x.low j h) (y.low j h) same in
    same-set s t x.four y.four (each 0 (omega arith)) (each 1 (omega arith)) (each 2 (omega arith)) (each 3 (omega arith))

-- no state at all
pub none-indexed : (sets : List Set) → length sets ≡ 512 → IsIndexed (record { sets = sets; count = 0; newest = replicate 512 0; older = replicate 512 0 })
none-indexed sets room = record {
  few = omega arith;
  sets_room = room;
  newest_room = refl;
  older_room = refl;
  words = λ k h. absurd (omega arith);
  newest_low = λ b h. omega (arith, get_or-replicate {A = ℕ} 512 b 0 0 h);
  newest_in = λ b k h e. absurd (omega (arith, e, get_or-replicate {A = ℕ} 512 b 0 0 h));
  newest_all = λ k h. absurd (omega arith);
  older_low = λ i h. absurd (omega arith);
  older_in = λ i k h e. absurd (omega arith);
  older_all = λ i k h g e. absurd (omega arith);
  distinct = λ i k h g e. absurd (omega arith);
}
