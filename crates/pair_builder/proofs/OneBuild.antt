-- A build has one answer: an image that is built has one size and is not refused, and a refusal has one number. An output
-- of 50,188 bytes is never too short. Assumes nothing.
use Rattle.std.proofs.Common.{◌≡◌, ℕ, ◌≤◌, List, [], length, Ok, Err, Result, refl, ap, ◌∙◌, subst, arith}
use Rattle.std.proofs.lemmas.List.FromFn.{length-map-range_with_len}
use Rattle.ternary.specs.declared.refusal.Refusal.{Refusal}
use Rattle.ternary.specs.Refusals.{number, values}
use Rattle.ternary.proofs.Telling.{known_one}
use Rattle.automaton.specs.Limits.{Handed, Within, dfa}
use Rattle.automaton.specs.Runs.{Dfa}
use Rattle.builder.specs.Build.{work_needed}
use Rattle.builder.specs.Lists.{code_of}
use Rattle.pair_builder.specs.Build.{Built, TooMany, TooLong, Declines, beyond, little, many, long, BuildAnswer, RoomSuffices, SoleAnswer}
use Rattle.pair_builder.specs.Unrolled.{Choice, Chosen, pair_table}

-- a table that is short enough does not have too many entries
not_many : (a : Dfa) (p : Choice) → Chosen a p → length (pair_table a p) ≤ 4096 → TooMany a → ⊥
not_many a p chosen few more = omega (arith, more p chosen)

-- an image that has room in the output is not too long for it
not_long : (a : Dfa) (before after : List ℕ) (size : ℕ) → Built a before after size → TooLong a (length before) → ⊥
not_long a before after size b l = omega (arith, b.sole l.choice l.chosen, b.room, l.short)

module _ (a : Handed) (work after after' out : List ℕ) where
  -- what is built is not refused
  not_refused : (out' : List ℕ) (size n : ℕ) (vs : List ℕ) → Within a → work_needed a ≤ length work → Built (dfa a) out out' size → Declines a work after (length out) n vs → ⊥
  not_refused out' size n vs within enough b (beyond non same) = non within
  not_refused out' size n vs within enough b (little w less same) = omega arith
  not_refused out' size n vs within enough b (many w e more) = not_many (dfa a) b.choice b.chosen b.few more
  not_refused out' size n vs within enough b (long w e l) = not_long (dfa a) out out' size b l

  -- a refusal has one number and one list of values
  one_refusal : (n m : ℕ) (vs us : List ℕ) → Declines a work after (length out) n vs → Declines a work after' (length out) m us → (n ≡ m) × (vs ≡ us)
  one_refusal n m vs us (beyond non same) (beyond non' same') = (refl, refl)
  one_refusal n m vs us (beyond non same) (little w less same') = absurd (non w)
  one_refusal n m vs us (beyond non same) (many w e more) = absurd (non w)
  one_refusal n m vs us (beyond non same) (long w e l) = absurd (non w)
  one_refusal n m vs us (little w less same) (beyond non same') = absurd (non w)
  one_refusal n m vs us (little w less same) (little w' less' same') = (refl, refl)
  one_refusal n m vs us (little w less same) (many w' e more) = absurd (omega arith)
  one_refusal n m vs us (little w less same) (long w' e l) = absurd (omega arith)
  one_refusal n m vs us (many w e more) (beyond non same') = absurd (non w)
  one_refusal n m vs us (many w e more) (little w' less same') = absurd (omega arith)
  one_refusal n m vs us (many w e more) (many w' e' more') = (refl, refl)
  one_refusal n m vs us (many w e more) (long w' e' l) = absurd (not_many (dfa a) l.choice l.chosen l.few more)
  one_refusal n m vs us (long w e l) (beyond non same') = absurd (non w)
  one_refusal n m vs us (long w e l) (little w' less same') = absurd (omega arith)
  one_refusal n m vs us (long w e l) (many w' e' more) = absurd (not_many (dfa a) l.choice l.chosen l.few more)
  one_refusal n m vs us (long w e l) (long w' e' l') = (refl, refl)

-- no other answer is right
pub sole_answer : (a : Handed) (work after out out' : List ℕ) (r : Result ℕ Refusal) → BuildAnswer a work after out out' r → SoleAnswer a work out r
sole_answer a work after out out' (Ok size) p (Ok n) after' out'' q = ap Ok (q.2.sized ∙ p.2.sole q.2.choice q.2.chosen)
sole_answer a work after out out' (Ok size) p (Err why) after' out'' q = absurd (not_refused a work after' after out out' size _ _ p.0 p.1 p.2 q.1)
sole_answer a work after out out' (Err why) p (Ok n) after' out'' q = absurd (not_refused a work after after' out out'' n _ _ q.0 q.1 q.2 p.1)
sole_answer a work after out out' (Err why) p (Err other) after' out'' q = ap Err (known_one other why (one_refusal a work after' after out (number other) (number why) (values other) (values why) q.1 p.1))

-- an image has 50,188 bytes at most
not_roomy : (a : Handed) (room : ℕ) → Within a → TooLong (dfa a) room → 50188 ≤ room → ⊥
not_roomy a room within l h = omega (arith, l.short, l.few, within.few, length-map-range_with_len (code_of (dfa a)) 0 a.states)

short_not_roomy : (a : Handed) (work after : List ℕ) (room n : ℕ) (vs : List ℕ) → Declines a work after room n vs → n ≡ 3 → 50188 ≤ room → ⊥
short_not_roomy a work after room n vs (beyond non same) e h = omega arith
short_not_roomy a work after room n vs (little w less same) e h = omega arith
short_not_roomy a work after room n vs (many w enough more) e h = omega arith
short_not_roomy a work after room n vs (long w enough l) e h = not_roomy a room w l h

pub room_suffices : (a : Handed) (work after out out' : List ℕ) (r : Result ℕ Refusal) → BuildAnswer a work after out out' r → RoomSuffices (length out) r
room_suffices a work after out out' r p h e =
    let short = subst (BuildAnswer a work after out out') e p in
    short_not_roomy a work after (length out) 3 [] short.1 refl h
