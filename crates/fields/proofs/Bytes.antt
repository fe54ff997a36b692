-- Big-endian fields read back, and parts of a list of bytes by place.
use Rattle.std.proofs.Common.{◌≡◌, ℕ, zero, suc, ◌+◌, ◌*◌, ◌/◌, ◌%◌, ◌<◌, List, [], ◌∷◌, ◌++◌, map, length, get_or, take, drop, sym, ap, ◌∙◌, append_assoc, mul-zero, mul-suc, mul-add, arith, length-append, take-add}
use native.Mathlib.Nat.{div-div-eq-div-mul}
use Rattle.std.specs.List.{range_with_len, flat_map}
use Rattle.std.proofs.lemmas.List.{drop_more, drop-drop, get_or_append_left, get_or-append-add}
use Rattle.fields.specs.Fields.{be16, be32}

pub be16_read : (a b : ℕ) → a < 256 → b < 256 → be16 (a * 256 + b) ≡ a ∷ b ∷ []
be16_read a b ha hb =
    let p : (a * 256 + b) / 256 % 256 ≡ a = omega arith in
    let q : (a * 256 + b) % 256 ≡ b = omega arith in
    λ i. p i ∷ q i ∷ []

pub be16_back : (n : ℕ) → n < 65536 → n / 256 % 256 * 256 + n % 256 ≡ n
be16_back n h = omega arith

pub be32_read : (a b c d : ℕ) → a < 256 → b < 256 → c < 256 → d < 256 → be32 (a * 16777216 + b * 65536 + c * 256 + d) ≡ a ∷ b ∷ c ∷ d ∷ []
be32_read a b c d ha hb hc hd =
    let p : (a * 16777216 + b * 65536 + c * 256 + d) / 16777216 % 256 ≡ a = omega arith in
    let q : (a * 16777216 + b * 65536 + c * 256 + d) / 65536 % 256 ≡ b = omega arith in
    let r : (a * 16777216 + b * 65536 + c * 256 + d) / 256 % 256 ≡ c = omega arith in
    let s : (a * 16777216 + b * 65536 + c * 256 + d) % 256 ≡ d = omega arith in
    λ i. p i ∷ q i ∷ r i ∷ s i ∷ []

pub be32_back : (n : ℕ) → n < 4294967296 → n / 16777216 % 256 * 16777216 + n / 65536 % 256 * 65536 + n / 256 % 256 * 256 + n % 256 ≡ n
be32_back n h =
    let two : n / 65536 ≡ n / 256 / 256 = sym (div-div-eq-div-mul n 256 256) in
    let three : n / 16777216 ≡ n / 256 / 256 / 256 = sym (ap (λ (k : ℕ). k / 256) (div-div-eq-div-mul n 256 256) ∙ div-div-eq-div-mul n 65536 256) in
    rw (two, three) (omega arith)

-- the bytes from a place on, one at a time
pub front : (bs : List ℕ) (k at next : ℕ) → next ≡ at + 1 → at < length bs → take (suc k) (drop at bs) ≡ get_or bs at 0 ∷ take k (drop next bs)
front bs k at next on h =
    ap (take (suc k)) (drop_more bs at 0 h) ∙ ap (λ (n : ℕ). get_or bs at 0 ∷ take k (drop n bs)) (sym on)

-- items of one size that are made from their place stand one after another
module _ {X : Type 0} (bytes : X → List ℕ) (make : ℕ → X) (bs : List ℕ) (base step : ℕ) where
  pub joined_made : (n a : ℕ) → ((k : ℕ) → k < a + n → bytes (make k) ≡ take step (drop (base + step * k) bs)) → flat_map bytes (map make (range_with_len a n)) ≡ take (step * n) (drop (base + step * a) bs)
  joined_made zero a h = ap (λ (k : ℕ). take k (drop (base + step * a) bs)) (sym (mul-zero step))
  joined_made (suc n) a h =
      let here = h a (omega arith) in
      let rest = joined_made n (a + 1) (λ k lt. h k (omega arith)) in
      let more : base + step * (a + 1) ≡ base + step * a + step = omega (arith, mul-add step a 1) in
      let size : step * suc n ≡ step + step * n = omega (arith, mul-suc step n) in
      (λ i. here i ++ rest i)
      ∙ (ap (λ (k : ℕ). take step (drop (base + step * a) bs) ++ take (step * n) (drop k bs)) more
      ∙ (ap (λ (l : List ℕ). take step (drop (base + step * a) bs) ++ take (step * n) l) (sym (drop-drop step (base + step * a) bs))
      ∙ (sym (take-add step (step * n) (drop (base + step * a) bs))
      ∙ ap (λ (k : ℕ). take k (drop (base + step * a) bs)) (sym size))))

-- an element of an item among items of one size
module _ {X Y : Type 0} (parts : X → List Y) (step : ℕ) (each : (x : X) → length (parts x) ≡ step) (y : Y) where
  pub part_of_item : (before after : List Y) (xs : List X) (k j at : ℕ) (d : X) → k < length xs → j < step → at ≡ length before + step * k + j → get_or (before ++ (flat_map parts xs ++ after)) at y ≡ get_or (parts (get_or xs k d)) j y
  part_of_item before after [] k j at d h lt e = absurd (omega arith)
  part_of_item before after (x ∷ xs) zero j at d h lt e =
      let there : at ≡ length before + j = omega (arith, mul-zero step) in
      let inside : j < length (parts x) = omega (arith, each x) in
      ap (λ (k : ℕ). get_or (before ++ ((parts x ++ flat_map parts xs) ++ after)) k y) there
      ∙ (get_or-append-add before ((parts x ++ flat_map parts xs) ++ after) j y
      ∙ (ap (λ (l : List Y). get_or l j y) (append_assoc (parts x) (flat_map parts xs) after)
      ∙ get_or_append_left (parts x) (flat_map parts xs ++ after) y j inside))
  part_of_item before after (x ∷ xs) (suc k) j at d h lt e =
      let on : at ≡ length (before ++ parts x) + step * k + j = omega (arith, length-append before (parts x), each x, mul-suc step k) in
      ap (λ (l : List Y). get_or l at y) (ap (λ (l : List Y). before ++ l) (append_assoc (parts x) (flat_map parts xs) after) ∙ sym (append_assoc before (parts x) (flat_map parts xs ++ after)))
      ∙ part_of_item (before ++ parts x) after xs k j at d (omega arith) lt on

-- a byte of an item among items of one size
pub byte_of_item : {X : Type 0} (bytes : X → List ℕ) (step : ℕ) (each : (x : X) → length (bytes x) ≡ step) (before after : List ℕ) (xs : List X) (k j at : ℕ) (d : X) → k < length xs → j < step → at ≡ length before + step * k + j → get_or (before ++ (flat_map bytes xs ++ after)) at 0 ≡ get_or (bytes (get_or xs k d)) j 0
byte_of_item bytes step each = part_of_item bytes step each 0
