-- Of an automaton within the limits, and with buffers that always suffice, a build declines by 4 alone.
use Rattle.std.proofs.Common.{◌≡◌, ℕ, ◌*◌, ◌≤◌, List, [], length, Err, refl, ap, arith}
use Rattle.std.proofs.Math.Nat.{mul-le-mul}
use Rattle.ternary.specs.declared.refusal.Refusal.{Refusal}
use Rattle.ternary.specs.declared.refusal.Refusal.TheVariants.{OutputTooShort}
use Rattle.ternary.specs.Refusals.{number, values, KnownBy}
use Rattle.ternary.proofs.Telling.{known_one}
use Rattle.automaton.specs.Limits.{Handed, Within, dfa}
use Rattle.builder.specs.Build.{Declines, beyond, little, many, long, work_needed, TooMany, RoomSuffices}

by-many : (a : Handed) (work after : List ℕ) (room n : ℕ) (vs : List ℕ) → Declines a work after room n vs → Within a → work_needed a ≤ length work → (n ≡ 3 → vs ≡ [] → ⊥) → (n ≡ 4) × (vs ≡ []) × TooMany (dfa a)
by-many a work after room n vs (beyond out e) w enough never = absurd (out w)
by-many a work after room n vs (little within short e) w enough never = absurd (omega (arith, short, enough))
by-many a work after room n vs (many within enough' none) w enough never = (refl, refl, none)
by-many a work after room n vs (long within enough' short) w enough never = absurd (never refl refl)

pub only-four : (a : Handed) (work after : List ℕ) (room : ℕ) (why : Refusal) → Declines a work after room (number why) (values why) → length work ≡ 270336 → 37900 ≤ room → RoomSuffices room (Err why) → Within a → KnownBy why 4 [] × TooMany (dfa a)
only-four a work after room why declines enough large suffices w =
    let square : a.states * a.states ≤ 512 * 512 = mul-le-mul w.few w.few in
    let r = by-many a work after room (number why) (values why) declines w (omega (arith, square, enough)) (λ n vs. suffices large (ap Err (known_one why OutputTooShort (n, vs)))) in
    ((r.0, r.1), r.2)
