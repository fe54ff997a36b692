use Rattle.std.proofs.Common.{rules, ◌≡◌, ℕ, ◌-◌, ◌*◌, ◌%◌, ◌^◌, ◌<◌, ◌≤◌, get_or, ◌∙◌, ap₂, arith}
use Rattle.forest.specs.Held.{held}
use Rattle.forest.proofs.Arrays.{len_within, part_whole}
use Rattle.forest.proofs.codes.Deferment.code_parts.Goals as goal

pub each_state-requires : goal.each_state-requires
each_state-requires c =
    let f = held c.args.self.now in
    let within : (s : ℕ) → s < f.states → get_or c.args.lens.now s 0 ≤ c.args.width = λ s hs. omega (arith, c.requires.lens.1 s hs, c.requires.width, len_within c.args.self.now s hs) in
    search (rules, within)

pub returns : goal.returns
returns c =
    let f = held c.args.self.now in
    let shifted : (s : ℕ) → s < f.states → get_or c.each_state.result.items s 0 ≡ f.number s * 2 ^ (c.args.width - get_or c.args.lens.now s 0) % 2 ^ 32 = λ s hs. let told = c.each_state.ensures.each s 0 (omega (arith, hs, c.states.ensures)) in search rules in
    let narrow : f.width ≤ 16 = omega (arith, c.requires.width) in (
      c.each_state.ensures.long ∙ c.states.ensures,
      λ s hs.
          shifted s hs
          ∙ ap₂ (λ (x y : ℕ). f.number s * 2 ^ (x - y) % 2 ^ 32) c.requires.width.0 (c.requires.lens.1 s hs)
          ∙ part_whole c.args.self.now narrow s hs,
    )
