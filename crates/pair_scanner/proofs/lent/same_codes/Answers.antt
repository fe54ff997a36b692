use Rattle.std.proofs.Common.{◌≡◌, ℕ, length, sym, refl, ap, ◌∙◌, arith}
use Rattle.image.specs.declared.reader.Header as one_header
use Rattle.pair_image.specs.declared.reader.Header as pair_header
use Rattle.image.specs.Calls.{parts_of}
use Rattle.pair_image.specs.Calls.{parts_of as pair_parts_of}
use Rattle.pair_scanner.proofs.Entering.{codes_same}
use Rattle.pair_scanner.proofs.lent.same_codes.Goals as goal

pub returns : goal.returns
returns c =
    let w2 = ap (λ (h : pair_header.Header). h.width) c.header.ensures in
    let w1 = ap (λ (h : one_header.Header). h.width) c.header-2.ensures in
    let n2 = ap (λ (h : pair_header.Header). h.states) c.header-states.ensures in
    let n1 = ap (λ (h : one_header.Header). h.states) c.header-else-header.ensures in (
      λ _. (
        sym w2 ∙ c.if-header.false ∙ w1,
        codes_same (pair_parts_of c.args.two).codes (parts_of c.args.one).codes c.header-states.result.states (sym n2) (sym n1 ∙ sym c.if-states-header.false)
            (λ s h. c.loop-number.invariant s (omega (arith, c.loop-number-test.false))),
      ),
      λ _. refl,
    )
