use Rattle.pair_builder.proofs.Unrolling.{table_carries}
use Rattle.pair_builder.proofs.law.unrolled_tables_carry.Goals as goal

pub returns : goal.returns
returns c = λ a p below chosen. table_carries a p chosen below
