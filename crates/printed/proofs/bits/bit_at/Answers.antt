use Rattle.std.proofs.Common.{◌≡◌, ℕ, ◌/◌, ◌%◌, ◌^◌, ◌≤◌, eqb, sym, refl, ap, ◌∙◌, arith, pow_mono}
use native.Mathlib.Nat.{div-eq_of_lt}
use Rattle.std.proofs.lemmas.Bool.{le-ltb}
use Rattle.ternary.specs.Bits.{digit, bit}
use Rattle.printed.proofs.bits.bit_at.Goals as goal

pub returns-then-place-lt-BITS : goal.returns-then-place-lt-BITS
unfolding bit digit
returns-then-place-lt-BITS c = refl

-- past its 16 bits a number has none
pub returns-else-place-lt-BITS : goal.returns-else-place-lt-BITS
unfolding bit digit
returns-else-place-lt-BITS c =
    let n = c.args.number in
    let place = c.args.place in
    let far : 16 ≤ place = omega arith in
    let wide : 2 ^ 16 ≤ 2 ^ place = pow_mono far in
    let none : n / 2 ^ place ≡ 0 = div-eq_of_lt (omega arith) in
    le-ltb place 16 far ∙ ap (λ (q : ℕ). eqb (q % 2) 1) (sym none)
