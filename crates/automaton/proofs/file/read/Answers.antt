use Rattle.std.proofs.Common.{ℕ}
use Rattle.automaton.proofs.Reading.{keeps_limits, is_its_sources_file, gives_source_back, gives_automaton_back}
use Rattle.automaton.proofs.file.read.Goals as goal

pub returns : goal.returns
returns c =
    let file = c.args.file.now in
    let small = λ (k : ℕ). (c.type_inv.file k).fits in
    let successors = c.args.successors.now in
    let classes = c.args.classes.now in
    let after = c.read_into.new.successors in
    let marks = c.read_into.new.classes in
    let told = c.read_into.ensures in
    record {
      answer = told.answer;
      successors = told.successors;
      classes = told.classes;
      limits = keeps_limits file small successors classes c.read_into.result after marks told.answer told.successors told.classes;
      exact = is_its_sources_file file small successors classes c.read_into.result after marks told.answer;
      source = gives_source_back file small successors classes c.read_into.result after marks told.answer told.successors told.classes;
      automaton = gives_automaton_back file small successors classes c.read_into.result after marks told.answer told.successors told.classes;
    }
