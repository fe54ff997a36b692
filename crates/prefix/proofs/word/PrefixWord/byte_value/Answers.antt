use Rattle.std.proofs.Common.{◌≡◌, ◌-◌, ◌*◌, ◌%◌, ◌^◌, eqb, sym, ap, ◌∙◌}
use lib.Bits.{bit_and}
use Rattle.prefix.proofs.Masking.{low_byte, clear, compares}
use Rattle.prefix.proofs.word.PrefixWord.byte_value.Goals as goal

pub returns : goal.returns
returns g c =
    let bits = c.args.self.now.bits in
    let v = c.args.self.now.value in
    let value : bit_and (v * 2 ^ c.stars.result % 65536) 255 ≡ v * 2 ^ (8 - bits) % 256 = low_byte (v * 2 ^ c.stars.result) ∙ ap (λ k. v * 2 ^ k % 256) c.stars.ensures in
    record {
      value = value;
      clear = ap (λ n. bit_and n (256 - 2 ^ (8 - bits))) value ∙ (clear bits v ∙ sym value);
      matches = λ formed byte h. ap (λ n. eqb (bit_and byte (256 - 2 ^ (8 - bits))) n) value ∙ compares bits v byte formed.0 formed.1 h;
    }
