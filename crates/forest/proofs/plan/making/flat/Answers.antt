use Rattle.std.proofs.Common.{rules, ◌≡◌, ℕ, ◌<◌, Some, None, get_or, sym, ap, ◌∙◌, arith}
use Rattle.std.proofs.lemmas.Option.{slice_get-get_or}
use Rattle.forest.specs.declared.plan.Placement.{Placement}
use Rattle.forest.specs.Plan.{placement_of}
use Rattle.forest.proofs.Counts.{bits_least}
use Rattle.forest.proofs.Flat.{flat, flat_width, flat_code, masked}
use Rattle.forest.proofs.plan.making.flat.Goals as goal

pub shadow_mask-mask-requires : goal.shadow_mask-mask-requires
shadow_mask-mask-requires c = (omega arith, omega (arith, c.bits_for-width.ensures, bits_least c.args.states 9 (omega (arith, c.requires))))

pub overflow_cast-result : goal.overflow_cast-result
overflow_cast-result c = omega (arith, c.bits_for-width.ensures, bits_least c.args.states 9 (omega (arith, c.requires)))

pub returns : goal.returns
returns c =
    let n = c.args.states in
    let places = c.each_state-places.result.items in
    let made : (s : ℕ) (d : Placement) → s < n → get_or places s d ≡ record { parent = None; depth = 0; code = record { 0 = s }; mask = c.shadow_mask-mask.result } =
    λ s d hs. let told = c.each_state-places.ensures.each s d hs in search rules in
    let same : (s : ℕ) → record { parent = None; depth = 0; code = record { 0 = s }; mask = c.shadow_mask-mask.result } ≡ placement_of (flat n) s =
    λ s i. record { parent = None; depth = 0; code = record { 0 = sym (flat_code n s) i }; mask = masked c.bits_for-width.result c.shadow_mask-mask.result n s c.bits_for-width.ensures c.shadow_mask-mask.ensures i } in (
      c.each_state-places.ensures.long,
      record {
        wide = c.bits_for-width.ensures ∙ sym (flat_width n);
        narrow_enough = omega (arith, c.bits_for-width.ensures, bits_least n 9 (omega (arith, c.requires)));
        placed = λ s hs.
            let d = placement_of (flat n) s in
            slice_get-get_or places s d hs ∙ ap (λ (p : Placement). Some p) (made s d (omega (arith, c.each_state-places.ensures.long)) ∙ same s);
      },
    )
