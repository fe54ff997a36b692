use Rattle.ternary.specs.Entries.{and_again}
use Rattle.pairs.proofs.pair.cleared.Goals as goal

pub returns-clause-clear : goal.returns-clause-clear
returns-clause-clear c = and_again c.args.value c.args.mask
