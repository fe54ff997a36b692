use Rattle.std.proofs.Common.{◌*◌, rules}
use Rattle.ternary.proofs.FromFn.{made_all}
use Rattle.measured.proofs.compiling.places.Goals as goal

pub returns : goal.returns
returns c =
    made_all _ _ (λ i. record { start = i * c.args.len; len = c.args.len }) 32 (λ i y q h called. (search rules, search rules)) c.from_fn.result (record { start = 0; len = 0 }) c.from_fn.ensures.items
