-- What the answer of a check says of its fault.
use Rattle.std.proofs.Common.{◌≡◌, ℕ, true, is_some, IsErrAnd, Some, None, Ok, Err, Option, Result, sym, refl, ap, ◌∙◌, arith}
use Rattle.std.proofs.lemmas.Result.{err_from_is_err_and}
use Rattle.ternary.specs.declared.refusal.Refusal.{Refusal}
use Rattle.ternary.specs.Refusals.{refuse_or, verdict}

-- a check that passed found no fault
pub passed_none : (f : Option ℕ) (u : Unit {0}) → Ok u ≡ verdict f → f ≡ None
passed_none None u e = refl
passed_none (Some at) u e = absurd (let z : ◌≡◌ {A = ℕ} 0 1 = cc in omega arith)

-- a check that refused found one
refused_some : (f : Option ℕ) (y : Refusal) → Err y ≡ verdict f → is_some f ≡ true
refused_some None y e = absurd (let z : ◌≡◌ {A = ℕ} 0 1 = cc in omega arith)
refused_some (Some at) y e = refl

-- the exit of a `?` hands a refusal on
pub handed_on : {T : Type 0} (r : Result T Refusal) (y : Refusal) → IsErrAnd r (λ e. e ≡ y) → r ≡ Err y
handed_on r y by = let p = err_from_is_err_and r by in p.1 ∙ ap Err p.2

-- a loop of checks that one of them ends: the whole fault is that check's fault
pub stopped_at : (r : Result (Unit {0}) Refusal) (y : Refusal) (whole rest f : Option ℕ) → IsErrAnd r (λ e. e ≡ y) → Err y ≡ verdict f → whole ≡ rest → (is_some f ≡ true → rest ≡ f) → r ≡ verdict whole
stopped_at r y whole rest f by told inv found = handed_on r y by ∙ (told ∙ ap verdict (sym (inv ∙ found (refused_some f y told))))

-- the same of an answer that has a value: no fault, and that value
pub passed_with : {X : Type 0} (f : Option ℕ) (x y : X) → Ok x ≡ refuse_or f (Ok y) → (f ≡ None) × (x ≡ y)
passed_with None x y e = (refl, cc)
passed_with (Some at) x y e = absurd (let z : ◌≡◌ {A = ℕ} 0 1 = cc in omega arith)

pub refused_with : {X : Type 0} (f : Option ℕ) (why : Refusal) (y : X) → ◌≡◌ {A = Result X Refusal} (Err why) (refuse_or f (Ok y)) → Err why ≡ verdict f
refused_with None why y e = absurd (let z : ◌≡◌ {A = ℕ} 0 1 = cc in omega arith)
refused_with (Some at) why y e = cc
