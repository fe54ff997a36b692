use Rattle.std.proofs.Common.{rules}
use Rattle.ternary.proofs.FromFn.{made_all}
use Rattle.automaton.specs.File.{state_no, next_by, said}
use Rattle.automaton.proofs.file.record.Record.row.Goals as goal

pub returns : goal.returns
returns c =
    made_all _ _ (next_by (said c.args.self.now).ranges c.args.self.now.default) 256 (λ i y q h called. (search rules, search rules)) c.from_fn.result (state_no 0) c.from_fn.ensures.items
