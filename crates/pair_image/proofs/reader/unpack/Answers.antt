use Rattle.std.proofs.Common.{refl, arith}
use Rattle.pair_image.specs.Rules.{fault}
use Rattle.pair_image.proofs.BytesBack.{bytes_back}
use Rattle.ternary.proofs.Verdicts.{passed_none}
use Rattle.pair_image.proofs.reader.unpack.Goals as goal

pub returns : goal.returns
returns c =
    let none = passed_none (fault c.args.bytes.now) _ c.in_ok-check_image.ensures in
    let back = bytes_back c.args.bytes.now (λ k. omega (arith, c.type_inv.bytes k)) none in
    record { holds = refl; sound = none; parts = back.0; bytes = back.1 }
