-- A load by two unpacked images, told of the images' bytes.
use Rattle.std.proofs.Common.{◌≡◌, ℕ, ◌+◌, ◌<◌, ◌≤◌, min, List, length, Some, sym, ap, ◌∙◌, subst, zero, suc, [], ◌∷◌, None, Option, refl, arith}
use Rattle.std.specs.List.{slice_get}
use Rattle.ternary.specs.declared.words.StateCode.{StateCode}
use Rattle.automaton.specs.Limits.{Handed}
use Rattle.image.specs.declared.reader.Header.{Header}
use Rattle.image.specs.declared.reader.Image.{Image}
use Rattle.image.specs.Calls as one_image
use Rattle.image.specs.Format as one_format
use Rattle.table.specs.Acceptance as table
use Rattle.pair_image.specs.declared.reader.Header as pair_header
use Rattle.pair_image.specs.declared.reader.Image as pair_reader
use Rattle.pair_image.specs.Calls as pair_calls
use Rattle.pair_image.specs.Format as pair
use Rattle.pair_image.proofs.Ruled.{ruled}
use Rattle.pair_table.specs.Acceptance as pair_table
use Rattle.scanner.proofs.Entering as single
use Rattle.pair_scanner.specs.Book.{SameCodes}

-- codes that are the same one by one are the same
pub codes_same : (xs ys : List StateCode) (n : ℕ) → length xs ≡ n → length ys ≡ n → ((s : ℕ) → s < n → slice_get xs s ≡ slice_get ys s) → xs ≡ ys
codes_same [] [] n lx ly same = refl
codes_same [] (y ∷ ys) n lx ly same = absurd (omega (arith, lx, ly))
codes_same (x ∷ xs) [] n lx ly same = absurd (omega (arith, lx, ly))
codes_same (x ∷ xs) (y ∷ ys) zero lx ly same = absurd (omega (arith, lx))
codes_same (x ∷ xs) (y ∷ ys) (suc n) lx ly same =
    let head : ◌≡◌ {A = Option StateCode} (Some x) (Some y) = same 0 (omega arith) in
    let is : x ≡ y = ap (λ (o : Option StateCode). elim o as (λ _. StateCode) [ None ↦ x | Some z ↦ z ]) head in
    let tail = codes_same xs ys n (omega (arith, lx)) (omega (arith, ly)) (λ s h. same (suc s) (omega arith)) in
    λ i. is i ∷ tail i

module _ (a : Handed) (bytes : List ℕ) (image : pair_reader.Image) (unpacked : pair_calls.Accepted bytes image) where
  -- what a two-byte image says is what its bytes say
  pub pair_parts : pair_calls.parts_of image ≡ pair.decode bytes
  pair_parts = ap pair.decode unpacked.holds

  module _ (h : pair_header.Header) (is : h ≡ pair_calls.header_of (pair_calls.parts_of image)) where
    -- as many entries as the header says, which are few
    pub pair_count : h.entries ≡ length (pair.decode bytes).entries
    pair_count = ap (λ (x : pair_header.Header). x.entries) is ∙ ap (λ (p : pair.Parts). length p.entries) pair_parts

    pub pair_few : length (pair_calls.parts_of image).entries ≤ 4096
    pair_few = (ruled (pair_calls.parts_of image) unpacked.parts).entries

    few_told : h.entries ≤ 4096
    few_told = omega (arith, pair_few, ap (λ (x : pair_header.Header). x.entries) is)

    -- more entries than the card says that it can hold, or no more
    pub pair_exceeds : (size capacity : ℕ) → capacity ≡ min size 65535 → capacity < h.entries → size < length (pair.decode bytes).entries
    pair_exceeds size capacity told less = omega (arith, pair_count, few_told)

    pub pair_suffices : (size capacity : ℕ) → capacity ≡ min size 65535 → h.entries ≤ capacity → length (pair.decode bytes).entries ≤ size
    pair_suffices size capacity told room = omega (arith, pair_count, few_told)

    pub pair_fits : (size capacity : ℕ) → capacity ≡ min size 65535 → h.entries ≤ capacity → length (pair_calls.parts_of image).entries ≤ size
    pair_fits size capacity told room = omega (arith, ap (λ (x : pair_header.Header). x.entries) is, few_told)

    pub pair_left : (free size : ℕ) → free + length (pair_calls.parts_of image).entries ≡ size → free + length (pair.decode bytes).entries ≡ size
    pair_left free size told = ap (λ (p : pair.Parts). free + length p.entries) (sym pair_parts) ∙ told

module _ (a : Handed) (bytes : List ℕ) (image : Image) (ok : table.Acceptable a bytes) (unpacked : one_image.Accepted bytes image) (h : Header) (is : h ≡ one_image.header_of (one_image.parts_of image)) where
  pub one_parts : one_image.parts_of image ≡ one_format.decode bytes
  one_parts = ap one_format.decode unpacked.holds

  few_one : h.entries ≤ 4096
  few_one = omega (arith, single.few a bytes image ok unpacked h is, ap (λ (x : Header). x.entries) is)

  pub one_exceeds : (size capacity : ℕ) → capacity ≡ min size 65535 → capacity < h.entries → size < length (one_format.decode bytes).entries
  one_exceeds size capacity told less = omega (arith, single.count a bytes image ok unpacked h is, few_one)

  pub one_fits : (size capacity : ℕ) → capacity ≡ min size 65535 → h.entries ≤ capacity → length (one_image.parts_of image).entries ≤ size
  one_fits size capacity told room = omega (arith, ap (λ (x : Header). x.entries) is, few_one)

-- the codes are the same in the images exactly if they are in the bytes
module _ (two one : List ℕ) (pimage : pair_reader.Image) (image : Image) (un2 : pair_calls.Accepted two pimage) (un1 : one_image.Accepted one image) where
  pub same_to : SameCodes (pair_calls.parts_of pimage) (one_image.parts_of image) → SameCodes (pair.decode two) (one_format.decode one)
  same_to same =
      subst (λ (p : pair.Parts). SameCodes p (one_format.decode one)) (ap pair.decode un2.holds)
      (subst (λ (q : one_format.Parts). SameCodes (pair_calls.parts_of pimage) q) (ap one_format.decode un1.holds) same)

  pub same_back : SameCodes (pair.decode two) (one_format.decode one) → SameCodes (pair_calls.parts_of pimage) (one_image.parts_of image)
  same_back same =
      subst (λ (p : pair.Parts). SameCodes p (one_image.parts_of image)) (sym (ap pair.decode un2.holds))
      (subst (λ (q : one_format.Parts). SameCodes (pair.decode two) q) (sym (ap one_format.decode un1.holds)) same)
