use Rattle.std.proofs.Common.{refl}
use Rattle.printed.proofs.Summaries.{summary_is}
use Rattle.printed.proofs.summary.summarize.Goals as goal

pub returns : goal.returns
returns c =
    summary_is c.args.file.now _ refl c.read.new.self c.in_ok-read.ensures c.automaton-automaton.result c.automaton-automaton.ensures c.count_marking.result c.count_marking.ensures
