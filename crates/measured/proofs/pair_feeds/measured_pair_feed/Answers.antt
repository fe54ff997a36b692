use Rattle.std.proofs.Common.{refl}
use Rattle.ternary.specs.declared.refusal.Refusal.TheVariants.{BadAutomaton}
use Rattle.pair_table.specs.Acceptance.{beyond}
use Rattle.pair_scanner.specs.Book.{two_unchecked}
use Rattle.measured.proofs.Beyond.{too_many}
use Rattle.measured.proofs.PairLoaded.{told_refused}
use Rattle.measured.proofs.pair_feeds.measured_pair_feed.Goals as goal

pub returns-then-successors-gt-MOST_SUCCESSORS : goal.returns-then-successors-gt-MOST_SUCCESSORS
returns-then-successors-gt-MOST_SUCCESSORS c =
    told_refused _ _ _ _ _ 4096 4096 c.number.result BadAutomaton refl refl (two_unchecked (beyond (too_many _ _ _ _ c.if-successors-gt-MOST_SUCCESSORS.true))) c.number.ensures
