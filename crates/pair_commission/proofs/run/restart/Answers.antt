use Rattle.std.proofs.Common.{rules, ◌≡◌, refl}
use Rattle.pair_commission.specs.Laws.{done_reply}
use Rattle.pair_commission.specs.Runs.{replied}
use Rattle.pair_commission.proofs.run.restart.Goals as goal

pub returns : goal.returns
returns g c =
    let same : replied c.map.result ≡ done_reply c.restart-answer.result = search rules in
    record {
      outcome = c.restart-answer.result;
      position = c.restart-answer.new.self.position;
      answer = c.restart-answer.ensures.answer;
      leaves = refl;
      replies = same;
    }
