-- From a load of what is filed, and from a feed over lent buffers, to a step.
use Rattle.std.proofs.Common.{◌≡◌, ℕ, true, List, length, is_err, Option, Result, subst, refl}
use Rattle.ternary.specs.declared.refusal.Refusal.{Refusal}
use Rattle.ternary.specs.declared.words.Mark.{Mark}
use Rattle.ternary.specs.declared.words.Progress.{Progress}
use Rattle.automaton.specs.Limits.{Handed}
use Rattle.scanner.proofs.Simulation.{Bytes}
use Rattle.pair_scanner.specs.declared.lent.Position.{Position}
use Rattle.pair_scanner.specs.Scanners.{Seen, moved, LoadAnswer, FeedAnswer}
use Rattle.pair_commission.specs.Journeys.{loading, feeding, Reply}
use Rattle.pair_commission.specs.Laws.{done_reply, walk_reply, Step}

-- a feed of the same piece, with as many slots
pub fed_step : (s : Seen) (piece slice : List ℕ) (slots : ℕ) (buffer after : List Mark) (r : Result Progress Refusal) (position : Option Position) (reply : Reply)
    → Bytes piece → slice ≡ piece → length buffer ≡ slots → FeedAnswer s.pair_list s.list s.position position slice buffer after r → reply ≡ walk_reply r after
    → Step s (feeding piece slots) reply (moved s position)
fed_step s piece slice slots buffer after r position reply all same count answer replies = record {
  bytes = all;
  buffer = buffer;
  after = after;
  count = count;
  outcome = r;
  position = position;
  answer = subst (λ (xs : List ℕ). FeedAnswer s.pair_list s.list s.position position xs buffer after r) same answer;
  leaves = refl;
  replies = replies;
}

-- a load of the same automaton and images
pub load_step : (s next : Seen) (a b : Handed) (two other one another : List ℕ) (r : Result (Unit {0}) Refusal) (reply : Reply)
    → b ≡ a → other ≡ two → another ≡ one → LoadAnswer b other another s next r → (is_err r ≡ true → next ≡ s) → reply ≡ done_reply r
    → Step s (loading a two one) reply next
load_step s next a b two other one another r reply same_a same_two same_one answer same replies = record {
  outcome = r;
  answer =
      subst (λ (x : Handed). LoadAnswer x two one s next r) same_a
      (subst (λ (xs : List ℕ). LoadAnswer b xs one s next r) same_two (subst (λ (xs : List ℕ). LoadAnswer b other xs s next r) same_one answer));
  same = same;
  replies = replies;
}
