-- The refusals that a check hands on: those of the limits and of the reader.
use Rattle.std.proofs.Common.{◌≡◌, ℕ, List, IsErrAnd, Some, None, Err, Option, Result, sym, refl, ap, ◌∙◌, subst, arith}
use Rattle.std.specs.Option.{option_map}
use Rattle.std.proofs.lemmas.Result.{err_from_is_err_and}
use Rattle.ternary.specs.declared.refusal.Refusal.{Refusal}
use Rattle.ternary.specs.declared.refusal.Refusal.TheVariants.{BadAutomaton, Malformed}
use Rattle.automaton.specs.Limits.{Handed, Within}
use Rattle.pair_image.specs.Rules.{fault}
use Rattle.pair_table.specs.Acceptance.{Checked, beyond, malformed}

-- the offset of a fault that a reader tells
told : (found : Option ℕ) (why : Refusal) → option_map Malformed found ≡ Some why → (at : ℕ) × (found ≡ Some at) × (why ≡ Malformed at)
told None why e = absurd (let z : ◌≡◌ {A = ℕ} 0 1 = cc in omega arith)
told (Some at) why e = (at, refl, cc)

module _ (a : Handed) (bytes : List ℕ) (r : Result (Unit {0}) Refusal) (why : Refusal) (by : IsErrAnd r (λ e. e ≡ why)) where
  -- the exit of a `?` hands the refusal on
  exit : r ≡ Err why
  exit = let p = err_from_is_err_and r by in p.1 ∙ ap Err p.2

  -- an automaton beyond its limits
  pub limits_handed_on : why ≡ BadAutomaton → (Within a → ⊥) → Checked a bytes r
  limits_handed_on is non = subst (Checked a bytes) (sym (exit ∙ ap Err is)) (beyond non)

  -- an image with a fault
  pub fault_handed_on : Within a → option_map Malformed (fault bytes) ≡ Some why → Checked a bytes r
  fault_handed_on within found =
      let p = told (fault bytes) why found in
      subst (Checked a bytes) (sym (exit ∙ ap Err p.2)) (malformed p.0 within p.1)
