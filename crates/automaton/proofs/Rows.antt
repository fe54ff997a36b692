-- The row of a state as an array. Assumes nothing.
use Rattle.std.proofs.Common.{◌≡◌, ℕ, ◌+◌, ◌*◌, ◌-◌, ◌<◌, ◌≤◌, None, Some, Option, MatchOption, List, [], length, map, replicate, get_or, take, drop, slice_range, sym, ap, ◌∙◌, arith, length-take, length-drop}
use Rattle.std.proofs.lemmas.List.{length-replicate, get_or-drop, get_or-take, get_or-replicate, get_or_past, take_all}
use Rattle.std.specs.Option.{unwrap_or}
use Rattle.std.specs.Array.{IsFirstChunk}
use Rattle.std.specs.List.{range_with_len}
use Rattle.std.proofs.lemmas.List.FromFn.{fill_by_all}
use Rattle.automaton.specs.File.{next_by}
use Rattle.ternary.specs.declared.words.StateNo.{StateNo}

-- the row of a state that goes to one successor on every byte
pub one_successor : (next : StateNo) → replicate 256 next ≡ map (next_by [] next) (range_with_len 0 256)
one_successor next = fill_by_all (next_by [] next) (replicate 256 next) 256 next (length-replicate 256 next) (λ byte h. get_or-replicate 256 byte next next h)

-- the row of the state s among all successors, of which there are 256 for each state
module _ (all row : List StateNo) (states s : ℕ) (count : length all ≡ 256 * states) (is : row ≡ slice_range all (256 * s) (256 * s + 256)) where
  width : 256 * s + 256 - 256 * s ≡ 256
  width = omega arith

  cut : row ≡ take 256 (drop (256 * s) all)
  cut = is ∙ ap (λ n. take n (drop (256 * s) all)) width

  -- the array's elements are those of the row, or all are the same where the row is short
  module _ {A : Type 0} (now : A → List StateNo) (zero : StateNo) (zeros : A) (zeros_are : now zeros ≡ replicate 256 zero) where
    pub each_successor : (o : Option A) → MatchOption o (length row < 256) (λ y. IsFirstChunk row (now y) 256) → (r : A) → r ≡ unwrap_or o zeros → (byte : ℕ) → byte < 256 → get_or (now r) byte zero ≡ get_or all (256 * s + byte) zero
    each_successor None short r e byte h =
        let beyond : length all ≤ 256 * s + byte = omega (arith, count, short, ap length cut, length-take 256 (drop (256 * s) all), length-drop (256 * s) all) in
        ap (λ x. get_or (now x) byte zero) e ∙ (ap (λ xs. get_or xs byte zero) zeros_are ∙ (get_or-replicate 256 byte zero zero h ∙ sym (get_or_past all (256 * s + byte) zero beyond)))
    each_successor (Some y) chunk r e byte h =
        ap (λ x. get_or (now x) byte zero) e
        ∙ (ap (λ xs. get_or xs byte zero) (chunk.same ∙ ap (take 256) cut)
        ∙ (get_or-take 256 (take 256 (drop (256 * s) all)) byte zero h
        ∙ (get_or-take 256 (drop (256 * s) all) byte zero h ∙ get_or-drop (256 * s) all byte zero)))

    pub whole_row : (o : Option A) → MatchOption o (length row < 256) (λ y. IsFirstChunk row (now y) 256) → (r : A) → r ≡ unwrap_or o zeros → s < states → now r ≡ slice_range all (256 * s) (256 * s + 256)
    whole_row None short r e h = absurd (omega (arith, count, short, ap length cut, length-take 256 (drop (256 * s) all), length-drop (256 * s) all))
    whole_row (Some y) chunk r e h =
        ap now e ∙ (chunk.same ∙ (take_all 256 row (omega (arith, ap length cut, length-take 256 (drop (256 * s) all))) ∙ is))
