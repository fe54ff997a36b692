use Rattle.gateway.proofs.Agreeing.{marks_are_own, each_takes}
use Rattle.gateway.proofs.Fairness.{is_fair}
use Rattle.gateway.proofs.Sole.{chain_one}
use Rattle.gateway.proofs.Alike.{chain_alike}
use Rattle.gateway.proofs.laws.laws.Goals as goal

pub returns : goal.returns
returns c = record {
  lawful = λ first last events blank chain. record {
    marks = marks_are_own first last events blank chain;
    parts = each_takes first last events blank chain;
    fair = is_fair first last events blank chain;
  };
  sole = λ first last events one others other again asks. chain_one again one asks;
  alike = λ first last events blank one other end others new same again asks. chain_alike new.start blank.start same again one asks;
}
