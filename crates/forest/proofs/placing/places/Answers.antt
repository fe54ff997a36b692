use Rattle.std.proofs.Common.{rules, ◌≡◌, ℕ, ◌<◌, get_or, Some, None, arith}
use Rattle.automaton.specs.Sound.{meant}
use Rattle.forest.specs.Deferment.{trees_of}
use Rattle.forest.specs.Placing.{place_of, root_place}
use Rattle.forest.proofs.Places.{grove_tree, roots_placed, all_placed}
use Rattle.forest.proofs.placing.places.Goals as goal

pub loop-r-init : goal.loop-r-init
loop-r-init c =
    let a = meant c.args.counts.now.automaton in
    let g = c.args.grove.now in
    roots_placed a g.labels (λ s h. grove_tree a g c.requires.grown s (omega arith)) c.roots-places.result (omega arith) c.roots-places.ensures

pub each_state-requires : goal.each_state-requires
each_state-requires c =
    let a = meant c.args.counts.now.automaton in
    let placed : (s : ℕ) → s < a.states → get_or c.loop-r.places s None ≡ Some (place_of a (trees_of a) s) = all_placed a c.loop-r.places c.loop-r.r (omega arith) c.loop-r.invariant in
    search (rules, placed)

pub returns : goal.returns
returns c =
    let a = meant c.args.counts.now.automaton in
    let placed : (s : ℕ) → s < a.states → get_or c.loop-r.places s None ≡ Some (place_of a (trees_of a) s) = all_placed a c.loop-r.places c.loop-r.r (omega arith) c.loop-r.invariant in (
      omega (arith, c.each_state.ensures.long),
      λ s hs. let told = c.each_state.ensures.each s root_place (omega arith) in let here = placed s hs in search rules,
    )
