use Rattle.std.proofs.Common.{◌≡◌, ℕ, ◌<◌, cond, eqb, length, set, Some, sym, ap, ◌∙◌, subst, ap₂, arith}
use Rattle.std.proofs.lemmas.Grind.{common_steps}
use Rattle.forest.specs.Labels.{label, Numbered, grown}
use Rattle.forest.specs.Joining.{trees_in}
use Rattle.forest.proofs.Groves.{passes, joins_numbered, joins_grown}
use Rattle.forest.proofs.joining.Grove.join.Goals as goal

pub invariant_of-self : goal.invariant_of-self
invariant_of-self c =
    let g = c.args.self.now in
    let at : c.from-then-ne.result ≡ label g.labels c.args.high.0 = c.from-then-ne.ensures ∙ ap (label g.labels) c.from-2.ensures in
    let moved : (k : ℕ) → k < length g.labels → label c.relabel.new.labels k ≡ cond (eqb (label g.labels k) (label g.labels c.args.high.0)) (label g.labels c.args.low.0) (label g.labels k) =
    λ k h. c.relabel.ensures k h ∙ ap₂ (λ (x y : ℕ). cond (eqb (label g.labels k) (label g.labels x)) (label g.labels y) (label g.labels k)) c.from-2.ensures c.from.ensures in
    let apart : label g.labels c.args.high.0 ≡ label g.labels c.args.low.0 → ⊥ = λ e. grind (arith, common_steps, e, c.ne.ensures, c.if-ne.true, c.from.ensures, c.from-2.ensures) in
    record {
      numbered = subst (λ (i : ℕ). Numbered c.relabel.new.labels (set g.joins i (Some (record { low = c.args.low; high = c.args.high })))) (sym at)
          (joins_numbered g.labels c.relabel.new.labels g.joins c.args.low c.args.high (omega arith) (omega arith) g.numbered c.relabel.auto.labels apart moved);
    }

pub returns-then-ne : goal.returns-then-ne
unfolding trees_in
returns-then-ne c =
    let g = c.args.self.now in
    let at : c.from-then-ne.result ≡ label g.labels c.args.high.0 = c.from-then-ne.ensures ∙ ap (label g.labels) c.from-2.ensures in
    let moved : (k : ℕ) → k < length g.labels → label c.relabel.new.labels k ≡ cond (eqb (label g.labels k) (label g.labels c.args.high.0)) (label g.labels c.args.low.0) (label g.labels k) =
    λ k h. c.relabel.ensures k h ∙ ap₂ (λ (x y : ℕ). cond (eqb (label g.labels k) (label g.labels x)) (label g.labels y) (label g.labels k)) c.from-2.ensures c.from.ensures in
    let apart : label g.labels c.args.high.0 ≡ label g.labels c.args.low.0 → ⊥ = λ e. grind (arith, common_steps, e, c.ne.ensures, c.if-ne.true, c.from.ensures, c.from-2.ensures) in
    ap (λ (i : ℕ). grown c.relabel.new.labels (set g.joins i (Some (record { low = c.args.low; high = c.args.high })))) at
    ∙ joins_grown g.labels c.relabel.new.labels g.joins c.args.low c.args.high (omega arith) (omega arith) g.numbered c.relabel.auto.labels apart moved

pub returns-else-ne : goal.returns-else-ne
unfolding trees_in
returns-else-ne c =
    let g = c.args.self.now in
    passes g.labels g.joins c.args.low.0 c.args.high.0 (omega arith) (omega arith) (grind (arith, common_steps, c.ne.ensures, c.if-ne.false, c.from.ensures, c.from-2.ensures))
