use Rattle.image.specs.Calls.{parts_of}
use Rattle.image.proofs.Ruled.{ruled}
use Rattle.measured.proofs.searches.measured_list_search.Goals as goal

pub fill-requires-clause-few : goal.fill-requires-clause-few
fill-requires-clause-few c = (ruled (parts_of c.in-Ok.image) c.in-Ok.ensures.parts).entries
