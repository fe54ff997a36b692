use Rattle.std.proofs.Common.{sym, ap, ◌∙◌, arith}
use Rattle.pair_image.specs.Format.{Parts, parts_from, decode}
use Rattle.pair_image.specs.Rules.{fault, parts_fault}
use Rattle.pair_image.proofs.Packs.{packed_answer, packed_after, written-encode, packed_front}
use Rattle.pair_image.proofs.PartsBack.{parts_back}
use Rattle.ternary.proofs.Verdicts.{passed_none}
use Rattle.pair_image.proofs.writer.pack.Goals as goal

pub returns : goal.returns
returns c =
    let out = c.args.out.now in
    let p : Parts = parts_from c.args.width c.args.start c.args.codes.now c.args.entries.now in
    let none = passed_none (parts_fault p) _ c.in_ok-check_parts.ensures in
    let made =
    written-encode p out c.put.new.out c.put_all.new.out c.put_all-2.new.out c.bytes.result
    c.bytes.ensures c.put.ensures c.put_all.ensures c.put_all-2.ensures in
    let front = packed_front p out c.put_all-2.new.out made in
    let back = parts_back p none in
    record {
      answer = sym (packed_answer p _ none (omega arith));
      after = made ∙ sym (packed_after p out none (omega arith));
      back = (ap fault front ∙ back.0, ap decode front ∙ back.1);
    }
