use Rattle.std.proofs.Common.{◌+◌, ◌%◌}
use Rattle.column.specs.Bitmaps.{first_word}
use Rattle.column.proofs.Fields.{both_kept, code-marked, marked_at}
use Rattle.column.proofs.bitmaps.write_entry.Goals as goal

pub returns : goal.returns
returns c =
    let ws = c.args.words.now in
    let ws₁ = c.write_field.new.words in
    let ws₂ = c.write_field-2.new.words in
    let i = c.args.index in
    let e = c.args.entry.now in
    let by_code = marked_at ws₁ (first_word i) 16 (i % 64) _ _ e.code_value e.code_mask c.code_value.ensures c.code_mask.ensures c.write_field.ensures.marked in
    record {
      kept = both_kept ws ws₁ ws₂ i c.write_field.ensures.kept c.write_field-2.ensures.kept;
      code = code-marked ws₁ ws₂ i e.code_value e.code_mask c.write_field-2.ensures.kept by_code;
      byte = marked_at ws₂ (first_word i + 32) 8 (i % 64) _ _ e.byte_value e.byte_mask c.byte_value-value.ensures c.byte_mask-mask.ensures c.write_field-2.ensures.marked;
    }
