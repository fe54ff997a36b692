use Rattle.std.proofs.Common.{refl}
use Rattle.measured.proofs.Waiting.{none_wait, wait_more}
use Rattle.measured.proofs.turns.all_wait.Goals as goal

pub loop-coach-init : goal.loop-coach-init
loop-coach-init g c code start next = none_wait _ code _ _ refl start c.requires.closed next

pub loop-coach-preserved : goal.loop-coach-preserved
loop-coach-preserved g c code start next =
    wait_more _ _ _ code _ _ _ _ _ (c.loop-coach.invariant code start next) c.loop-coach-test.true c.open.ensures.step c.post.ensures.step
