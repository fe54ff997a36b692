use Rattle.std.proofs.Common.{sym, ap, ◌∙◌, arith}
use Rattle.automaton.specs.Sound.{meant}
use Rattle.forest.specs.Joining.{trees_in}
use Rattle.forest.proofs.Groves.{row_none, row_turn, row_skip}
use Rattle.forest.proofs.joining.Grove.join_row.Goals as goal
use Rattle.forest.proofs.joining.Grove.join_row.Goals.{then-shared, else-shared}

pub loop-t-init : goal.loop-t-init
loop-t-init c = row_none (meant c.args.counts.now.automaton) (trees_in c.args.self.now) c.args.shared c.args.s.0

pub loop-t-preserved : goal.loop-t-preserved
loop-t-preserved c =
    let a = meant c.args.counts.now.automaton in
    let before = trees_in c.args.self.now in
    let here = trees_in c.loop-t.self in
    elim c.if-shared.branch [
      | then-shared w ↦
          ap trees_in w.self-is
          ∙ (w.join.ensures ∙ row_turn a before here c.args.shared c.args.s.0 c.loop-t.t (omega arith) c.loop-t.invariant (sym c.shared.ensures ∙ w.if-shared.true))
      | else-shared w ↦
          ap trees_in w.self-is
          ∙ row_skip a before here c.args.shared c.args.s.0 c.loop-t.t (omega arith) c.loop-t.invariant (λ e. w.if-shared.false (c.shared.ensures ∙ e))
    ]
