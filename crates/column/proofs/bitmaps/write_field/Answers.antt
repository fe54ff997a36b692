use Rattle.std.proofs.Common.{◌≡◌, ℕ, refl, subst, arith}
use Rattle.column.specs.Bitmaps.{Kept, Marked}
use Rattle.column.proofs.Bitwise.{bit_clear_test, bit_same_test}
use Rattle.column.proofs.Fields.{kept_more, marked_more}
use Rattle.column.proofs.bitmaps.write_field.Goals as goal

pub loop-k-init : goal.loop-k-init
loop-k-init c = (λ q p h n. refl, λ k l. absurd (omega arith))

pub loop-k-preserved : goal.loop-k-preserved
loop-k-preserved c =
    let ws₀ = c.args.words.now in
    let ws = c.loop-k.words in
    let ws₁ = c.put.new.words in
    let ws₂ = c.put-in-loop-k.new.words in (
      kept_more ws₀ ws ws₁ ws₂ c.args.base c.loop-k.k c.args.place c.args.value c.args.mask _ _ c.requires.place_bound c.put.ensures c.put-in-loop-k.ensures c.loop-k.invariant.0,
      marked_more ws₀ ws ws₁ ws₂ c.args.base c.loop-k.k c.args.place c.args.value c.args.mask _ _ c.requires.place_bound c.put.ensures c.put-in-loop-k.ensures
          (bit_clear_test c.args.value c.loop-k.k) (bit_same_test c.args.value c.args.mask c.loop-k.k) c.loop-k.invariant.1,
    )

pub returns : goal.returns
returns c =
    let all : c.loop-k.k ≡ c.args.width = omega arith in
    record {
      kept = subst (λ (k : ℕ). Kept c.args.words.now c.loop-k.words c.args.base k c.args.place) all c.loop-k.invariant.0;
      marked = subst (λ (k : ℕ). Marked c.loop-k.words c.args.base k c.args.place c.args.value c.args.mask) all c.loop-k.invariant.1;
    }
