use Rattle.std.proofs.Common.{◌≡◌, ℕ, ◌+◌, ◌*◌, ◌<◌, List, true, false, get_or, set, sym, ◌∙◌, subst, ap₂, inl, inr, arith}
use Rattle.std.proofs.lemmas.Bool.{cases_eq}
use Rattle.std.proofs.lemmas.List.{get_or-set_same}
use Rattle.automaton.specs.Sound.{meant}
use Rattle.forest.specs.Deferment.{shared}
use Rattle.forest.specs.Sharing.{RowsCounted}
use Rattle.forest.proofs.Squares.{other_place, same_place}
use Rattle.forest.proofs.Flags.{flag_kept}
use Rattle.forest.proofs.sharing.count_row.Goals as goal

pub loop-t-preserved : goal.loop-t-preserved
loop-t-preserved c =
    let a = meant c.args.automaton in
    let n = a.states in
    let s = c.args.s.0 in
    let t = c.loop-t.t in
    let counts = c.loop-t.counts in
    let met = c.loop-t.met in
    let v = c.shared_bytes-shared.result in
    let is = c.shared_bytes-shared.ensures.value in
    let few = c.shared_bytes-shared.ensures.few in
    let inside : t < n = omega arith in
    let at : s * n + t ≡ c.from.result * c.states.result + t = sym (ap₂ (λ (x y : ℕ). x * y + t) c.from.ensures c.states.ensures) in
    let Counted : List ℕ → Type 0 = λ l. RowsCounted a l s × ((r : ℕ) → s < r → r < t + 1 → get_or l (s * n + r) 0 ≡ shared a s r) in (
      λ before.
          let held = c.loop-t.invariant.0 before in
          subst (λ (i : ℕ). Counted (set counts i v)) at (
            λ u r hu low high. other_place counts n u r s t v high inside (λ e f. omega arith) ∙ held.0 u r hu low high,
            λ r low high. elim (cases_eq r t) [
              | inl e ↦
                  subst (λ (k : ℕ). get_or (set counts (s * n + t) v) (s * n + k) 0 ≡ shared a s k) (sym e)
                  (same_place counts n s t v c.requires.inside inside (omega (arith, c.requires.room)) ∙ is)
              | inr ne ↦ other_place counts n s r s t v (omega arith) inside (λ e f. ne f) ∙ held.1 r low (omega arith)
            ],
          ),
      λ before.
          let held = c.loop-t.invariant.1 before in (
            λ u r hu low high. flag_kept met v (shared a u r) (omega arith) (held.0 u r hu low high),
            λ r low high. elim (cases_eq r t) [
              | inl e ↦
                  subst (λ (k : ℕ). get_or (set met v true) (shared a s k) false ≡ true) (sym e)
                  (subst (λ (k : ℕ). get_or (set met v true) k false ≡ true) is (get_or-set_same met v true false (omega arith)))
              | inr ne ↦ flag_kept met v (shared a s r) (omega arith) (held.1 r low (omega arith))
            ],
          ),
    )

pub returns-clause-counted : goal.returns-clause-counted
returns-clause-counted c before u r hu low high =
    let a = meant c.args.automaton in
    let n = a.states in
    let s = c.args.s.0 in
    let held = c.loop-t.invariant.0 before in
    elim (cases_eq u s) [
      | inl e ↦ subst (λ (k : ℕ). get_or c.loop-t.counts (k * n + r) 0 ≡ shared a k r) (sym e) (held.1 r (omega arith) (omega arith))
      | inr ne ↦ held.0 u r (omega arith) low high
    ]

pub returns-clause-marked : goal.returns-clause-marked
returns-clause-marked c before u r hu low high =
    let a = meant c.args.automaton in
    let s = c.args.s.0 in
    let held = c.loop-t.invariant.1 before in
    elim (cases_eq u s) [
      | inl e ↦ subst (λ (k : ℕ). get_or c.loop-t.met (shared a k r) false ≡ true) (sym e) (held.1 r (omega arith) (omega arith))
      | inr ne ↦ held.0 u r (omega arith) low high
    ]
