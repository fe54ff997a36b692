use Rattle.std.proofs.Common.{rules, ◌≡◌, ℕ, ◌<◌, Some, get_or, ap, ◌∙◌, arith}
use Rattle.std.proofs.lemmas.Option.{slice_get-get_or}
use Rattle.forest.specs.declared.plan.Placement.{Placement}
use Rattle.forest.specs.Held.{held}
use Rattle.forest.specs.Plan.{placement_of}
use Rattle.forest.proofs.codes.Deferment.plan.Goals as goal

pub returns : goal.returns
returns c =
    let f = held c.args.self.now in
    let places = c.each_state-places.result.items in
    let place : (s : ℕ) (d : Placement) → s < f.states → get_or places s d ≡ placement_of f s = λ s d hs. let told = c.each_state-places.ensures.each s d (omega (arith, hs, c.states.ensures)) in search rules in (
      c.each_state-places.ensures.long ∙ c.states.ensures,
      record {
        wide = c.width-width.ensures;
        narrow_enough = c.if-width-gt-MOST_BITS.false;
        placed = λ s hs.
            let d = placement_of f s in
            slice_get-get_or places s d hs ∙ ap (λ (p : Placement). Some p) (place s d (omega (arith, c.each_state-places.ensures.long, c.states.ensures)));
      },
    )
