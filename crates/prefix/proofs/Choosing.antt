-- The list that is chosen for a row: it depends on the row's bytes alone, and it is a shortest one. Assumes nothing.
use Rattle.std.proofs.Common.{◌≡◌, ℕ, zero, suc, ◌+◌, ◌*◌, ◌^◌, ◌<◌, ◌≤◌, Bool, eqb, map, sym, ap, ◌∙◌, ap₂, mul_assoc, add-mul, pow-suc, arith, lit≤}
use Rattle.std.specs.List.{AllByRecursion}
use Rattle.ternary.specs.declared.words.StateNo.{StateNo}
use Rattle.prefix.specs.Words.{Formed, Shortest}
use Rattle.prefix.specs.Tree.{Tree, leaf, node, emit}
use Rattle.prefix.specs.Row.{build, placed}
use Rattle.prefix.specs.Listed.{stated, chosen}
use Rattle.prefix.proofs.Listing.{list_formed, list_shortest}

-- rows that agree on the bytes have the same tree
module _ (row row' : ℕ → ℕ) (deferrable deferrable' : ℕ → Bool) (rows : (byte : ℕ) → byte < 256 → row byte ≡ row' byte) (flags : (byte : ℕ) → byte < 256 → deferrable byte ≡ deferrable' byte) where
  same_tree : (h v : ℕ) → v * 2 ^ h + 2 ^ h ≤ 256 → build row deferrable h v ≡ build row' deferrable' h v
  same_tree zero v le = ap₂ leaf (rows v (omega arith)) (flags v (omega arith))
  same_tree (suc h) v le =
      let whole : 2 ^ suc h ≡ 2 ^ h * 2 = pow-suc 2 h in
      let first : v * 2 ^ suc h ≡ v * 2 ^ h * 2 = ap (λ n. v * n) whole ∙ sym (mul_assoc v (2 ^ h) 2) in
      let low : 2 * v * 2 ^ h ≡ 2 * (v * 2 ^ h) = mul_assoc 2 v (2 ^ h) in
      let high : (2 * v + 1) * 2 ^ h ≡ 2 * v * 2 ^ h + 1 * 2 ^ h = add-mul (2 * v) 1 (2 ^ h) in
      ap₂ node (same_tree h (2 * v) (omega (arith, whole, first, low))) (same_tree h (2 * v + 1) (omega (arith, whole, first, low, high)))

  -- and the same list
  pub chosen-same : chosen row deferrable ≡ chosen row' deferrable'
  unfolding chosen
  chosen-same = ap (λ (t : Tree ℕ). map stated (placed 0 0 0 (emit eqb 0 t))) (same_tree 8 0 (lit≤ tt))

-- its words compare 0 to 8 bits
pub chosen_formed : (row : ℕ → ℕ) (deferrable : ℕ → Bool) → AllByRecursion Formed (chosen row deferrable)
unfolding chosen
chosen_formed row deferrable = list_formed row deferrable

-- it is a shortest list for states with these numbers
pub chosen-shortest : (row : ℕ → ℕ) (deferrable : ℕ → Bool) (states : ℕ → StateNo) → ((byte : ℕ) → byte < 256 → row byte ≡ (states byte).0) → Shortest (chosen row deferrable) states deferrable
unfolding chosen
chosen-shortest row deferrable states same = list_shortest row deferrable states same
