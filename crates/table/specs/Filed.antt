-- What is filed, as it is handed to calls. Assumes nothing.
use Rattle.std.specs.Prelude.{vec_items}
use Rattle.automaton.specs.Limits.{Handed}
use Rattle.table.specs.declared.filing.Filing.{Filing}

-- the automaton that is filed
abbrev pub filed : Filing → Handed
filed f = record {
  states = f.states;
  start = f.start.0;
  successors = vec_items f.successors;
  classes = vec_items f.classes;
}
