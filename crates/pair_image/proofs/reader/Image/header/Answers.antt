use Rattle.std.proofs.Common.{get_or, sym, ◌∙◌}
use Rattle.std.proofs.lemmas.List.FromFn.{length-map-range_with_len}
use Rattle.std.proofs.lemmas.List.{length-map}
use Rattle.fields.specs.Fields.{word}
use Rattle.pair_image.specs.Format.{code_at, entry_from, raw_at, raws_in}
use Rattle.pair_image.proofs.reader.Image.header.Goals as goal

pub returns : goal.returns
returns c =
    let bs = c.args.self.now.bytes.now in
    let states = length-map-range_with_len (code_at bs) 0 (word bs 6) in
    let entries = length-map (raws_in bs) entry_from ∙ length-map-range_with_len (raw_at bs (word bs 6)) 0 (word bs 10) in
    c.read.ensures ∙ (λ i. record { width = get_or bs 5 0; states = sym states i; start = record { 0 = word bs 8 }; entries = sym entries i })
