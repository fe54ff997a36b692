use Rattle.std.proofs.Common.{ℕ, Some, sym, ap, ◌∙◌, arith}
use Rattle.std.specs.Option.{option_map}
use Rattle.std.proofs.lemmas.List.FromFn.{length-map-range_with_len}
use Rattle.std.proofs.lemmas.List.{length-map}
use Rattle.std.proofs.lemmas.Option.{slice_get_past}
use Rattle.fields.specs.Fields.{word}
use Rattle.pair_image.specs.declared.reader.Header.{Header}
use Rattle.pair_image.specs.Format.{code_at, decode, entry_from, raw_at, raws_in}
use Rattle.pair_image.proofs.Items.{nth_made, nth_map}
use Rattle.pair_image.proofs.reader.Image.entry.Goals as goal

pub returns-then-index-header : goal.returns-then-index-header
returns-then-index-header c =
    let bs = c.args.self.now.bytes.now in
    let i = c.args.index in
    let says = c.header-header.ensures in
    let states = ap (λ (h : Header). h.states) says ∙ length-map-range_with_len (code_at bs) 0 (word bs 6) in
    let entries = ap (λ (h : Header). h.entries) says ∙ length-map (raws_in bs) entry_from in
    let there = nth_made (raw_at bs (word bs 6)) (word bs 10) i (omega (arith, entries)) in
    ap Some (c.into.ensures ∙ ap entry_from (c.read.ensures ∙ ap (λ (n : ℕ). raw_at bs n i) states))
    ∙ sym (nth_map entry_from (raws_in bs) i ∙ ap (option_map entry_from) there)

pub returns-else-index-header : goal.returns-else-index-header
returns-else-index-header c =
    let bs = c.args.self.now.bytes.now in
    sym (slice_get_past (decode bs).entries c.args.index (omega (arith, ap (λ (h : Header). h.entries) c.header-header.ensures)))
