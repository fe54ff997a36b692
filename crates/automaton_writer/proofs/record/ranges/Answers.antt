use Rattle.std.proofs.Common.{◌≡◌, ◌-◌, ◌<◌, ◌++◌, length, sym, ap, ◌∙◌, arith}
use Rattle.std.specs.List.{flat_map}
use Rattle.arrayvec.specs.ArrayVec.{array_vec_len}
use Rattle.automaton.specs.File.{range_bytes}
use Rattle.automaton_writer.specs.Filed.{ranges_from}
use Rattle.automaton_writer.proofs.Runs.{all-ranges, turn-same, turn-other, last-turn}
use Rattle.automaton_writer.proofs.record.ranges.Goals.{then-ne, else-ne}
use Rattle.automaton_writer.proofs.record.ranges.Goals as goal

pub loop-at-init : goal.loop-at-init
loop-at-init c = record {
  low = omega arith;
  few = omega (arith, ap length c.new-ranges.ensures);
  items = λ next leads.
      ap (λ xs. xs ++ flat_map range_bytes (ranges_from next 0 1 255)) c.new-ranges.ensures
      ∙ ap (flat_map range_bytes) (sym (all-ranges next));
}

pub loop-at-preserved : goal.loop-at-preserved
loop-at-preserved c =
    let inv = c.loop-at.invariant in
    let at = c.loop-at.at in
    let last : at < 256 = c.loop-at-test.true in
    elim c.if-ne.branch [
      | then-ne w ↦ record {
        low = omega (arith, w.low-is);
        few = omega (arith, ap array_vec_len w.ranges-is, w.push_run.ensures.few, inv.few, inv.low, w.low-is);
        items = λ next leads.
            turn-other c.args.row.now next leads c.loop-at.low at inv.low last c.loop-at.ranges.items c.if-ne.ranges.items c.if-ne.low
            (sym c.ne.ensures ∙ w.if-ne.true) (ap (λ r. r.items) w.ranges-is ∙ w.push_run.ensures.items) w.low-is
            ∙ inv.items next leads;
      }
      | else-ne w ↦ record {
        low = omega (arith, w.low-is, inv.low);
        few = omega (arith, ap array_vec_len w.ranges-is, inv.few, w.low-is);
        items = λ next leads.
            turn-same c.args.row.now next leads c.loop-at.low at inv.low last c.loop-at.ranges.items c.if-ne.ranges.items c.if-ne.low
            (sym c.ne.ensures ∙ w.if-ne.false) (ap (λ r. r.items) w.ranges-is) w.low-is
            ∙ inv.items next leads;
      }
    ]

pub returns-clause-bytes : goal.returns-clause-bytes
returns-clause-bytes c = λ next leads.
    let inv = c.loop-at.invariant in
    let end : c.loop-at.at ≡ 256 = omega (arith, c.loop-at.auto.at-end, c.loop-at-test.false) in
    c.push_run-2.ensures.items
    ∙ last-turn c.args.row.now next leads c.loop-at.low (omega (arith, inv.low, end)) c.loop-at.ranges.items
    ∙ sym (ap (λ k. c.loop-at.ranges.items ++ flat_map range_bytes (ranges_from next c.loop-at.low k (256 - k))) end)
    ∙ inv.items next leads
