-- The emitted words of a prefix, by those of its two longer prefixes. Assumes nothing.
use Rattle.std.proofs.Common.{◌≡◌, ℕ, suc, ◌+◌, ◌-◌, ◌*◌, ◌<◌, List, [], ◌∷◌, ◌++◌, map, refl, ap, ◌∙◌, arith}
use Rattle.prefix.specs.declared.word.PrefixWord.{PrefixWord}
use Rattle.prefix.specs.Tree.{Mark, here, low, high, halves, closed}
use Rattle.prefix.specs.Row.{word, placed}

pub map-append : {X Y : Type 0} (f : X → Y) (xs ys : List X) → map f (xs ++ ys) ≡ map f xs ++ map f ys
map-append f [] ys = refl
map-append f (x ∷ xs) ys = ap (λ zs. f x ∷ zs) (map-append f xs ys)

map_low : {D : Type 0} (unknown : D) (h v : ℕ) (ms : List (Mark D)) → map (word unknown (suc h) v) (map low ms) ≡ map (word unknown h (2 * v)) ms
map_low unknown h v [] = refl
map_low unknown h v (m ∷ ms) = ap (λ zs. word unknown h (2 * v) m ∷ zs) (map_low unknown h v ms)

map_high : {D : Type 0} (unknown : D) (h v : ℕ) (ms : List (Mark D)) → map (word unknown (suc h) v) (map high ms) ≡ map (word unknown h (2 * v + 1)) ms
map_high unknown h v [] = refl
map_high unknown h v (m ∷ ms) = ap (λ zs. word unknown h (2 * v + 1) m ∷ zs) (map_high unknown h v ms)

pub map-halves : {D : Type 0} (unknown : D) (h v : ℕ) (ls rs : List (Mark D)) → map (word unknown (suc h) v) (halves ls rs) ≡ map (word unknown h (2 * v)) ls ++ map (word unknown h (2 * v + 1)) rs
map-halves unknown h v ls rs = map-append (word unknown (suc h) v) (map low ls) (map high rs) ∙ rw (map_low unknown h v ls, map_high unknown h v rs) refl

pub placed-halves : (bits v : ℕ) (ls rs : List (Mark ℕ)) → bits < 8 → placed 0 bits v (halves ls rs) ≡ placed 0 (bits + 1) (2 * v) ls ++ placed 0 (bits + 1) (2 * v + 1) rs
placed-halves bits v ls rs h =
    let e : 8 - bits ≡ suc (8 - (bits + 1)) = omega arith in
    ap (λ n. map (word 0 n v) (halves ls rs)) e ∙ map-halves 0 (8 - (bits + 1)) v ls rs

pub placed-closed : (bits v e : ℕ) (ls rs : List (Mark ℕ)) → bits < 8
    → placed 0 bits v (closed e ls rs) ≡ (placed 0 (bits + 1) (2 * v) ls ++ placed 0 (bits + 1) (2 * v + 1) rs) ++ record { bits = bits; value = v; next = e } ∷ []
placed-closed bits v e ls rs h =
    let k : 8 - (8 - bits) ≡ bits = omega arith in
    let last : word 0 (8 - bits) v (here e) ≡ record { bits = bits; value = v; next = e } = ap {B = PrefixWord ℕ} (λ n. record { bits = n; value = v; next = e }) k in
    map-append (word 0 (8 - bits) v) (halves ls rs) (here e ∷ []) ∙ rw (placed-halves bits v ls rs h) (ap (λ w. (placed 0 (bits + 1) (2 * v) ls ++ placed 0 (bits + 1) (2 * v + 1) rs) ++ w ∷ []) last)
