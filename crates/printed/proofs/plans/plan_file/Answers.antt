use Rattle.std.proofs.Common.{ℕ, replicate, refl}
use lib.ListN.{length-replicate}
use Rattle.printed.proofs.PlannedFiles.{file_planned}
use Rattle.printed.proofs.plans.plan_file.Goals as goal

pub returns : goal.returns
returns c =
    file_planned c.args.file.now _ refl c.read.new.self c.in_ok-read.ensures _ c.automaton.ensures (replicate 12288 0) c.of.new.work (length-replicate {A = ℕ} 12288 0) c.of.result c.of.ensures.answer
