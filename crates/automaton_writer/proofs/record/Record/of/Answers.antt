use Rattle.std.proofs.Common.{◌≡◌, ◌+◌, ◌∷◌, length, get_or, ap, ◌∙◌}
use Rattle.fields.specs.Fields.{be16}
use Rattle.automaton_writer.proofs.Files.{record-made}
use Rattle.automaton_writer.proofs.record.Record.of.Goals as goal

pub returns-clause-bytes : goal.returns-clause-bytes
returns-clause-bytes c = λ next leads.
    let items = c.ranges-ranges.result.items in
    let len : c.to_be_bytes.result ≡ be16 (3 + length items) = c.to_be_bytes.ensures ∙ ap (λ n. be16 (3 + n)) c.len.ensures.value in
    let default = c.to_be_bytes-2.ensures in
    (λ i. get_or (len i) 0 0 ∷ get_or (len i) 1 0 ∷ c.args.class ∷ get_or (default i) 0 0 ∷ get_or (default i) 1 0 ∷ items)
    ∙ record-made c.args.class c.args.row.now next leads items (c.ranges-ranges.ensures.bytes next leads)
