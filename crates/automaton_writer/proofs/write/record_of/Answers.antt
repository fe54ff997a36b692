use Rattle.std.proofs.Common.{ap, ◌∙◌}
use Rattle.automaton.specs.File.{record_bytes}
use Rattle.automaton.specs.Sound.{meant}
use Rattle.automaton_writer.specs.Filed.{record_by}
use Rattle.automaton_writer.proofs.write.record_of.Goals as goal

pub returns-clause-bytes : goal.returns-clause-bytes
returns-clause-bytes c =
    let next = (meant c.args.automaton.now).next c.args.number in
    c.of.ensures.bytes next c.successors.ensures.each ∙ ap (λ k. record_bytes (record_by k next)) c.class.ensures
