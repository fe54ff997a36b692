use Rattle.std.proofs.Common.{◌≡◌, ℕ, ◌*◌, ◌<◌, ◌≤◌, ◌++◌, ◌-◌}
use Rattle.std.specs.List.{flat_map}
use Rattle.arrayvec.specs.ArrayVec.{array_vec_len}
use Rattle.automaton.specs.File.{range_bytes}
use Rattle.automaton_writer.specs.Filed.{ranges_from, ranges_of, Leads}
use Rattle.automaton_writer.proofs.record.ranges.Given as goal

-- the ranges of the runs before low are there
abbrev pub invariant-loop-at : goal.invariant-loop-at
invariant-loop-at l = record {
  low : l.low < l.at;
  few : array_vec_len l.ranges ≤ 4 * l.low;
  items : (next : ℕ → ℕ) → Leads l.row next → l.ranges.items ++ flat_map range_bytes (ranges_from next l.low l.at (256 - l.at)) ≡ flat_map range_bytes (ranges_of next);
}
