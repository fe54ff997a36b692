use Rattle.std.proofs.Common.{rules, ◌≡◌, ℕ, ◌+◌, ◌<◌, ◌^◌, get_or, ◌∙◌, arith}
use Rattle.forest.specs.Arrays.{ForEach, sum_above}
use Rattle.forest.specs.Held.{held}
use Rattle.forest.proofs.Sums.{len_sum, len_small}
use Rattle.forest.proofs.codes.Deferment.prefix_lens.Goals as goal

pub each_state-requires : goal.each_state-requires
each_state-requires c =
    let f = held c.args.self.now in
    let amounts = c.each_state-bits.result.items in
    let bits : ForEach f amounts f.bits = (c.each_state-bits.ensures.long ∙ c.states.ensures, λ p hp. let told = c.each_state-bits.ensures.each p 0 (omega (arith, hp, c.states.ensures)) in search rules) in
    let fits : (s : ℕ) → s < f.states → c.root_bits-root_bits.result + sum_above f amounts s < 2 ^ 32 =
    λ s hs. omega (arith, c.root_bits-root_bits.ensures, len_sum c.args.self.now amounts bits s hs, len_small c.args.self.now s hs) in
    search (rules, fits)

pub returns : goal.returns
returns c =
    let f = held c.args.self.now in
    let amounts = c.each_state-bits.result.items in
    let bits : ForEach f amounts f.bits = (c.each_state-bits.ensures.long ∙ c.states.ensures, λ p hp. let told = c.each_state-bits.ensures.each p 0 (omega (arith, hp, c.states.ensures)) in search rules) in
    let lens : (s : ℕ) → s < f.states → get_or c.each_state.result.items s 0 ≡ c.root_bits-root_bits.result + sum_above f amounts s = λ s hs. let told = c.each_state.ensures.each s 0 (omega (arith, hs, c.states-2.ensures)) in search rules in
    (c.each_state.ensures.long ∙ c.states-2.ensures, λ s hs. omega (arith, lens s hs, c.root_bits-root_bits.ensures, len_sum c.args.self.now amounts bits s hs))
