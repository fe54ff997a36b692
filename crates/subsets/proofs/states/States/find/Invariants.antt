use Rattle.std.proofs.Common.{◌≡◌, ◌+◌, ◌<◌, ◌≤◌, ℕ}
use Rattle.positions.specs.Tables.{set_at}
use Rattle.subsets.specs.Buckets.{bucket_of}
use Rattle.subsets.specs.Index.{bucket_at}
use Rattle.subsets.proofs.states.States.find.Given as goal

-- the next state is in the bucket of the set, and no later state is the set
abbrev pub invariant-loop-next : goal.invariant-loop-next
invariant-loop-next l = record {
  low : l.next ≤ l.self.count;
  in_bucket : (k : ℕ) → l.next ≡ k + 1 → bucket_at l.self k ≡ bucket_of l.set;
  absent : (k : ℕ) → l.next ≤ k → k < l.self.count → set_at l.self.sets k ≡ l.set → ⊥;
}

abbrev pub decreases-loop-next : goal.decreases-loop-next
decreases-loop-next l = l.next
