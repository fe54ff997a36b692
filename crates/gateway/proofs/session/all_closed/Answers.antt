use Rattle.gateway.proofs.Tables.{all_one}
use Rattle.gateway.proofs.session.all_closed.Goals as goal

pub returns : goal.returns
returns c = all_one c.closed.result c.closed.ensures
