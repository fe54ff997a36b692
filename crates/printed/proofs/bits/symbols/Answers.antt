use Rattle.std.proofs.Common.{string_bytes, arith}
use Rattle.printed.proofs.Spelling.{places_more}
use Rattle.printed.proofs.bits.symbols.Goals as goal

pub loop-place-preserved : goal.loop-place-preserved
loop-place-preserved c =
    let told = c.in_ok-push.ensures in
    let spelt = c.symbol.ensures in
    places_more (string_bytes c.loop-place.text) (string_bytes c.push.new.self) _ _ c.loop-place.place c.args.value c.args.mask c.is_compared.result c.bit_at.result c.symbol.result
    (omega arith) c.loop-place.invariant told.bytes (told.ascii spelt.ascii) spelt.value c.is_compared.ensures c.bit_at.ensures
