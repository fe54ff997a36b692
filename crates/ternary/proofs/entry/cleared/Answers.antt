use Rattle.std.proofs.Common.{refl}
use lib.Bits.{and_le_r}
use Rattle.ternary.proofs.BitLaws.{and_again}
use Rattle.ternary.proofs.entry.cleared.Goals as goal

pub returns : goal.returns
returns c = record { value = refl; clear = and_again c.args.value c.args.mask; bound = and_le_r c.args.value c.args.mask }
