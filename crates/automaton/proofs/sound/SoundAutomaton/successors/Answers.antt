use Rattle.std.proofs.Common.{refl}
use Rattle.automaton.proofs.Rows.{each_successor, whole_row}
use Rattle.automaton.proofs.sound.SoundAutomaton.successors.Goals as goal

pub returns : goal.returns
returns c =
    let a = c.args.self.now in
    record {
      each = each_successor a.automaton.successors.now c.row.result.now a.automaton.states c.args.state.0 a.within.successors_count c.row.ensures (λ r. r.now) _ _ refl c.first_chunk-row.result c.first_chunk-row.ensures.cases c.unwrap_or.result c.unwrap_or.ensures;
      row = whole_row a.automaton.successors.now c.row.result.now a.automaton.states c.args.state.0 a.within.successors_count c.row.ensures (λ r. r.now) _ _ refl c.first_chunk-row.result c.first_chunk-row.ensures.cases c.unwrap_or.result c.unwrap_or.ensures;
    }
