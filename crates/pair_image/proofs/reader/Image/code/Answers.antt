use Rattle.std.proofs.Common.{Some, sym, ap, ◌∙◌, arith}
use Rattle.std.proofs.lemmas.Option.{slice_get_past}
use Rattle.fields.specs.Fields.{word}
use Rattle.pair_image.specs.declared.reader.Header.{Header}
use Rattle.pair_image.specs.Format.{code_at, codes_in}
use Rattle.pair_image.proofs.Items.{nth_made}
use Rattle.pair_image.proofs.reader.Image.code.Goals as goal

pub returns-then-state-header : goal.returns-then-state-header
returns-then-state-header c =
    let bs = c.args.self.now.bytes.now in
    ap Some (c.read.ensures ∙ ap (code_at bs) c.from.ensures) ∙ sym (nth_made (code_at bs) (word bs 6) c.args.state.0 (omega (arith, ap (λ (h : Header). h.states) c.header.ensures)))

pub returns-else-state-header : goal.returns-else-state-header
returns-else-state-header c =
    let bs = c.args.self.now.bytes.now in
    sym (slice_get_past (codes_in bs) c.args.state.0 (omega (arith, ap (λ (h : Header). h.states) c.header.ensures)))
