use Rattle.std.proofs.Common.{◌≡◌, ℕ, ◌*◌, subst}
use Rattle.ternary.specs.Bits.{bit}
use Rattle.column.specs.Bitmaps.{agrees}
use Rattle.column.proofs.Scans.{joined_hit, unjoined_hit}
use Rattle.column.proofs.bitmaps.join.Goals as goal

pub returns-then-accepting-eq0 : goal.returns-then-accepting-eq0
returns-then-accepting-eq0 c = λ p h.
    unjoined_hit c.args.words.now c.args.code c.args.byte c.args.block p h
    (subst (λ (w : ℕ). bit w p ≡ agrees c.args.words.now (48 * c.args.block) p c.args.code 16) c.if-accepting-eq0.true (c.join_field-accepting.ensures p h))

pub returns : goal.returns
returns c = λ p h.
    joined_hit c.args.words.now c.args.code c.args.byte c.args.block c.join_field-accepting.result c.join_field.result p h
    (c.join_field-accepting.ensures p h) (c.join_field.ensures p h)
