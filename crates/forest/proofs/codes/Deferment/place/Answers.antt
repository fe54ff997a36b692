use Rattle.std.proofs.Common.{ℕ, ◌+◌, ◌-◌, ◌^◌, ◌≤◌, get_or, ap, ◌∙◌, ap₂, arith}
use Rattle.forest.specs.Arrays.{sum_above}
use Rattle.forest.specs.Held.{held}
use Rattle.forest.specs.Placing.{root_place, parent_at}
use Rattle.forest.specs.Plan.{state_named}
use Rattle.forest.proofs.Arrays.{len_within, code_small}
use Rattle.forest.proofs.Sums.{code_sum, renamed}
use Rattle.forest.proofs.codes.Deferment.place.Goals as goal

pub sum_above-requires-clause-fits : goal.sum_above-requires-clause-fits
sum_above-requires-clause-fits c =
    let self = c.args.self.now in
    let s = c.args.s.0 in
    let narrow : (held self).width ≤ 16 = omega (arith, c.requires.width) in
    let part = ap (λ (k : ℕ). get_or c.args.parts.now k 0) c.from-at.ensures in
    omega (arith, part, code_sum self c.args.parts.now c.requires.parts s c.requires.state, code_small self narrow s c.requires.state)

pub overflow_cast-result : goal.overflow_cast-result
overflow_cast-result c =
    let self = c.args.self.now in
    let s = c.args.s.0 in
    let narrow : (held self).width ≤ 16 = omega (arith, c.requires.width) in
    let part = ap (λ (k : ℕ). get_or c.args.parts.now k 0) c.from-at.ensures in
    omega (arith, part, c.sum_above.ensures, code_sum self c.args.parts.now c.requires.parts s c.requires.state, code_small self narrow s c.requires.state)

pub shadow_mask-requires : goal.shadow_mask-requires
shadow_mask-requires c =
    let s = c.args.s.0 in
    let len = ap (λ (k : ℕ). get_or c.args.lens.now k 0) c.from-at.ensures in
    (omega (arith, len, c.requires.lens.1 s c.requires.state, c.requires.width, len_within c.args.self.now s c.requires.state), c.requires.width.1)

pub returns : goal.returns
returns c =
    let self = c.args.self.now in
    let places = self.places.now in
    let s = c.args.s.0 in
    let at = c.from-at.ensures in
    let named = renamed (get_or places c.from-at.result root_place).parent ∙ ap (λ (k : ℕ). state_named (parent_at places k)) at in
    let part = ap (λ (k : ℕ). get_or c.args.parts.now k 0) at in
    let coded = c.sum_above.ensures ∙ ap (λ (k : ℕ). k + sum_above (held self) c.args.parts.now s) part ∙ code_sum self c.args.parts.now c.requires.parts s c.requires.state in
    let len = ap (λ (k : ℕ). get_or c.args.lens.now k 0) at ∙ c.requires.lens.1 s c.requires.state in
    let masked = c.shadow_mask.ensures ∙ ap₂ (λ (x y : ℕ). 2 ^ x - 2 ^ (x - y)) c.requires.width.0 len in
    λ i. record { parent = named i; depth = (get_or places (at i) root_place).depth; code = record { 0 = coded i }; mask = masked i }
