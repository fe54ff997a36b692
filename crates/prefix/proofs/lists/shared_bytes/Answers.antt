use Rattle.std.proofs.Common.{rules, false, zero-add}
use Rattle.prefix.specs.States.{shares}
use Rattle.prefix.proofs.Made.{element-from_fn}
use Rattle.prefix.proofs.lists.shared_bytes.Goals as goal

pub returns : goal.returns
returns c = λ byte h. element-from_fn _ (shares c.args.row.now c.args.other.now) _ (λ x y q k. search rules) c.from_fn.result 0 256 byte byte false c.from_fn.ensures.items.each h (zero-add byte)
