-- What a version and a length with no fault keep.
use Rattle.std.proofs.Common.{◌≡◌, ℕ, ◌+◌, ◌-◌, ◌≤◌, eqb, leb, false, List, length, get_or, is_some, None, Option, ap, ◌∙◌}
use Rattle.std.proofs.lemmas.Bool.{le-leb, leb-true, eq-eqb, eqb-true}
use Rattle.fields.specs.Fields.{long, check, or_else}
use Rattle.fields.proofs.Faults.{both_pass, check_pass, pass}
use Rattle.pair_image.specs.Rules.{pair_frame_fault}

pub record Framed (least : ℕ) (bs : List ℕ) : Type 0 where
  pub room : 5 + least ≤ length bs
  pub version : get_or bs 0 0 ≡ 3
  pub size : long bs 1 ≡ length bs - 5

pub framed : (least : ℕ) (bs : List ℕ) → is_some (pair_frame_fault least bs) ≡ false → Framed least bs
framed least bs h =
    let a = both_pass (check (leb (5 + least) (length bs)) (length bs)) _ h in
    let b = both_pass (check (eqb (get_or bs 0 0) 3) 0) _ a.1 in
    let c = both_pass (check (eqb (long bs 1) (length bs - 5)) 1) None b.1 in
    record {
      room = leb-true (5 + least) (length bs) (check_pass _ _ a.0);
      version = eqb-true (get_or bs 0 0) 3 (check_pass _ _ b.0);
      size = eqb-true (long bs 1) (length bs - 5) (check_pass _ _ c.0);
    }

-- and back
pub frame_passed : (least : ℕ) (bs : List ℕ) (next : Option ℕ) → Framed least bs → or_else (pair_frame_fault least bs) next ≡ next
frame_passed least bs next good =
    ap (λ (f : Option ℕ). or_else f next)
    (pass (leb (5 + least) (length bs)) (length bs) _ (le-leb (5 + least) (length bs) good.room)
    ∙ (pass (eqb (get_or bs 0 0) 3) 0 _ (eq-eqb (get_or bs 0 0) 3 good.version)
    ∙ pass (eqb (long bs 1) (length bs - 5)) 1 None (eq-eqb (long bs 1) (length bs - 5) good.size)))
