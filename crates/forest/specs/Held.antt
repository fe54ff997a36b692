-- What a deferment holds. No public call cites this file. Assumes nothing.
use Rattle.forest.specs.declared.codes.Deferment.{Deferment}
use Rattle.forest.specs.Forest.{Forest}
use Rattle.forest.specs.Placing.{forest_at}

-- the forest that its places describe
abbrev pub held : Deferment → Forest
held d = forest_at d.places.now
