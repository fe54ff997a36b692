use Rattle.std.proofs.Common.{◌≡◌, ℕ, ◌<◌, ◌≤◌, Bool, false, length, Ok, Err, Decides, ⊎_elim, arith}
use Rattle.std.proofs.lemmas.Bool.{both_ways, cases_lt}
use Rattle.ternary.specs.declared.refusal.Refusal.TheVariants.{NoEntry, PieceTooLong}
use Rattle.scanner.proofs.OneAnswer.{only}
use Rattle.scanner.proofs.Walking.{too_long_here, here_marked, here_unmarked, unmatched_here, full_here, all_here}
use Rattle.scanner.proofs.walk.walk.Goals as goal
use Rattle.scanner.proofs.walk.walk.Goals.{then-class-ne0, else-class-ne0}

pub returns-then-piece-gt-LONGEST_PIECE : goal.returns-then-piece-gt-LONGEST_PIECE
returns-then-piece-gt-LONGEST_PIECE g c =
    let end = too_long_here (g.C.Card.entries c.args.card.now) c.args.from c.args.piece.now c.args.marks.now c.if-piece-gt-LONGEST_PIECE.true in
    record { outcome = end; only = only _ _ _ _ _ (Err PieceTooLong) end }

-- a byte that gives a mark and does not lack a slot has one
slot_left : (b : Bool) (class written slots : ℕ) → Decides b ((class ≡ 0 → ⊥) × (slots ≤ written)) → b ≡ false → (class ≡ 0 → ⊥) → written < slots
slot_left b class written slots lacks left nz = ⊎_elim (λ h. h) (λ full. absurd (both_ways b left (lacks.1 (nz, full)))) (cases_lt written slots)

pub loop-i-preserved : goal.loop-i-preserved
loop-i-preserved g c =
    let hit = c.in-Some.ensures in
    elim c.if-class-ne0.branch [
      | then-class-ne0 w ↦
          simp (w.marks-is, w.code-is, w.written-is)
          (here_marked _ _ _ _ _ _ _ _ c.loop-i.invariant _ _ c.loop-i-test.true hit w.if-class-ne0.true (slot_left _ _ _ _ c.lacks_slot.ensures c.if-lacks_slot.false w.if-class-ne0.true))
      | else-class-ne0 w ↦
          simp (w.marks-is, w.code-is, w.written-is)
          (here_unmarked _ _ _ _ _ _ _ _ c.loop-i.invariant _ _ c.loop-i-test.true hit w.if-class-ne0.false)
    ]

pub returns-in_default : goal.returns-in_default
returns-in_default g c =
    let end = unmatched_here _ _ _ _ _ _ _ _ c.loop-i.invariant c.loop-i.auto.marks c.if-piece-gt-LONGEST_PIECE.false _ c.stopped.ensures c.loop-i-test.true c.in_default.ensures in
    record { outcome = end; only = only _ _ _ _ _ (Err (NoEntry c.stopped.result)) end }

pub returns-then-lacks_slot : goal.returns-then-lacks_slot
returns-then-lacks_slot g c =
    let lacks = c.lacks_slot.ensures.0 c.if-lacks_slot.true in
    let end = full_here _ _ _ _ _ _ _ _ c.loop-i.invariant c.loop-i.auto.marks c.if-piece-gt-LONGEST_PIECE.false _ c.stopped-then-lacks_slot.ensures _ _ c.loop-i-test.true c.in-Some.ensures lacks.0 lacks.1 in
    record { outcome = end; only = only _ _ _ _ _ (Ok c.stopped-then-lacks_slot.result) end }

pub returns : goal.returns
returns g c =
    let at : c.loop-i.i ≡ length c.args.piece.now = omega arith in
    let n = length c.args.piece.now in
    let end = all_here _ _ _ _ _ _ _ _ c.loop-i.invariant c.loop-i.auto.marks c.if-piece-gt-LONGEST_PIECE.false (record { taken = n; marks = c.loop-i.written; code = c.loop-i.code; marks_full = false; searches = n }) (simp at) at in
    record { outcome = end; only = only _ _ _ _ _ (Ok _) end }
