-- Pairs without a cycle can be joined one after the other, and joined pairs have no cycle. Assumes nothing.
use Rattle.std.proofs.Common.{◌≡◌, ℕ, ◌<◌, true, List, [], ◌∷◌, ◌++◌, sym, refl, ◌∙◌, subst, ap₂, append_assoc, inl, inr, arith}
use Rattle.std.specs.List.{Contains}
use Rattle.std.proofs.lemmas.Bool.{true≢false}
use Rattle.std.proofs.lemmas.List.Elements.{Contains-append_left, Contains-append_right, Contains-append_cases, Contains-push, Contains-push_cases}
use Rattle.forest.specs.Deferment.{Trees}
use Rattle.forest.specs.Heaviest.{Path, stay, step, IsAcyclic}
use Rattle.forest.proofs.Joins.{Bridge}
use Rattle.forest.proofs.Free.{has_none, has_cases, has_head, has_tail, merge, merge_ways, Free}

-- one path after another
paths : {ps : List (ℕ × ℕ)} {s t u : ℕ} → Path ps s t → Path ps t u → Path ps s u
paths stay v = v
paths (step h w) v = step h (paths w v)

-- a path stays one over a list with more pairs
wider : (ps qs : List (ℕ × ℕ)) → {s t : ℕ} → Path ps s t → Path (ps ++ qs) s t
wider ps qs stay = stay
wider ps qs (step {s = s} {t = t} h w) = step (elim h [
  | inl k ↦ inl (Contains-append_left ps qs (s, t) k)
  | inr k ↦ inr (Contains-append_left ps qs (t, s) k)
]) (wider ps qs w)

-- the states of a tree are connected by the pairs that were joined
abbrev Reached : (ℕ → ℕ) → List (ℕ × ℕ) → Type 0
Reached g done = (x y : ℕ) → g x ≡ g y → Path done x y

reached_more : (g : ℕ → ℕ) (done : List (ℕ × ℕ)) (p : ℕ × ℕ) → Reached g done → Reached (merge g p) (done ++ p ∷ [])
reached_more g done p r x y e =
    let old : (u v : ℕ) → g u ≡ g v → Path (done ++ p ∷ []) u v = λ u v k. wider done (p ∷ []) (r u v k) in
    elim (merge_ways g p x y e) [
      | inl k ↦ old x y k
      | inr w ↦ elim w [
        | inl (k, l) ↦ paths (old x p.0 k) (step {t = p.1} (inl (Contains-push done p)) (old p.1 y (sym l)))
        | inr (k, l) ↦ paths (old x p.1 k) (step {t = p.0} (inr (Contains-push done p)) (old p.0 y (sym l)))
      ]
    ]

-- the pairs that are left, after some were joined
free_left : (ps done : List (ℕ × ℕ)) (g : ℕ → ℕ) → IsAcyclic (done ++ ps) → Reached g done → Free g ps
free_left [] done g c r = tt
free_left (p ∷ ps) done g c r = (
  λ e. c done ps p refl (wider done ps (r p.0 p.1 e)),
  free_left ps (done ++ p ∷ []) (merge g p) (subst IsAcyclic (sym (append_assoc done (p ∷ []) ps)) c) (reached_more g done p r),
)

-- pairs without a cycle join two trees each, from single states on
pub acyclic_free : (ps : List (ℕ × ℕ)) → IsAcyclic ps → Free (λ s. s) ps
acyclic_free ps c = free_left ps [] (λ s. s) c (λ x y e. subst (λ (z : ℕ). Path [] x z) e stay)

-- ---- no cycle

-- each pair stands once
abbrev pub Once : List (ℕ × ℕ) → Type 0
Once [] = Unit {0}
Once (p ∷ ps) = (Contains ps p → ⊥) × Once ps

pub once_push : (ps : List (ℕ × ℕ)) (p : ℕ × ℕ) → Once ps → (Contains ps p → ⊥) → Once (ps ++ p ∷ [])
once_push [] p o new = (has_none p, tt)
once_push (q ∷ ps) p (nq, o) new = (
  λ h. elim (Contains-push_cases ps p q h) [
    | inl k ↦ nq k
    | inr e ↦ new (subst (λ (x : ℕ × ℕ). Contains (q ∷ ps) x) (sym e) (has_head q ps))
  ],
  once_push ps p o (λ h. new (has_tail q ps p h)),
)

-- a pair does not stand among the others
once_apart : (before after : List (ℕ × ℕ)) (p : ℕ × ℕ) → Once (before ++ p ∷ after) → Contains (before ++ after) p → ⊥
once_apart [] after p o h = o.0 h
once_apart (q ∷ before) after p (nq, o) h = elim (has_cases q (before ++ after) p h) [
  | inl e ↦ nq (Contains-append_right before (p ∷ after) q (subst (λ (x : ℕ × ℕ). Contains (p ∷ after) x) (sym e) (has_head p after)))
  | inr k ↦ once_apart before after p o k
]

-- the others stand in the list
others_of : (before after : List (ℕ × ℕ)) (p q : ℕ × ℕ) → Contains (before ++ after) q → Contains (before ++ p ∷ after) q
others_of before after p q h = elim (Contains-append_cases before after q h) [
  | inl k ↦ Contains-append_left before (p ∷ after) q k
  | inr k ↦ Contains-append_right before (p ∷ after) q (has_tail p after q k)
]

-- a path over the other pairs stays on one side of a bridge
module _ (f : Trees) (ps : List (ℕ × ℕ)) (once : Once ps) (joined : (q : ℕ × ℕ) → Contains ps q → (q.0 < q.1) × (f.joined q.0 q.1 ≡ true))
    (before after : List (ℕ × ℕ)) (p : ℕ × ℕ) (is : ps ≡ before ++ p ∷ after) (lt : p.0 < p.1) (b : Bridge f p.0 p.1) where
  one_side : (x y : ℕ) → Contains (before ++ after) (x, y) → b.0 x ≡ b.0 y
  one_side x y h =
      let l = joined (x, y) (subst (λ (l : List (ℕ × ℕ)). Contains l (x, y)) (sym is) (others_of before after p (x, y) h)) in
      b.3 x y l.1
      (λ xp yp. once_apart before after p (subst Once is once) (subst (λ (q : ℕ × ℕ). Contains (before ++ after) q) (ap₂ (λ (i j : ℕ). (i, j)) xp yp) h))
      (λ xp yp. omega (arith, l.0))

  path_side : {x y : ℕ} → Path (before ++ after) x y → b.0 x ≡ b.0 y
  path_side stay = refl
  path_side (step {s = s} {t = t} h w) = elim h [
    | inl k ↦ one_side s t k ∙ path_side w
    | inr k ↦ sym (one_side t s k) ∙ path_side w
  ]

-- joined pairs have no cycle
pub bridges_acyclic : (f : Trees) (ps : List (ℕ × ℕ)) → Once ps → ((q : ℕ × ℕ) → Contains ps q → (q.0 < q.1) × (f.joined q.0 q.1 ≡ true)) →
    ((s t : ℕ) → f.joined s t ≡ true → Bridge f s t) → IsAcyclic ps
bridges_acyclic f ps once joined bridge before after p is w =
    let l = joined p (subst (λ (l : List (ℕ × ℕ)). Contains l p) (sym is) (Contains-append_right before (p ∷ after) p (has_head p after))) in
    let b = bridge p.0 p.1 l.1 in
    true≢false (sym b.1 ∙ path_side f ps once joined before after p is l.0 b w ∙ b.2)
