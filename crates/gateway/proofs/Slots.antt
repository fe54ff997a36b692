-- Behind the marks that a walk wrote, the mark slots are as they were.
use Rattle.std.proofs.Common.{◌≡◌, ℕ, List, map, length, drop, Result, sym, ap, ◌∙◌}
use Rattle.std.proofs.lemmas.List.{drop_at, length-map}
use Rattle.ternary.specs.declared.entry.Entry.{Entry}
use Rattle.ternary.specs.declared.refusal.Refusal.{Refusal}
use Rattle.ternary.specs.declared.words.Mark.{Mark}
use Rattle.ternary.specs.declared.words.Progress.{Progress}
use Rattle.ternary.specs.declared.words.StateCode.{StateCode}
use Rattle.ternary.specs.Marks.{held}
use Rattle.scanner.specs.Walks.{Outcome, Tells}
use Rattle.scanner.proofs.OneAnswer.{Ends, well, unmatched, too_long, ends}
use Rattle.gateway.specs.Sessions.{marks_written}

module _ (es : List Entry) (from : StateCode) (piece : List ℕ) (before : List Mark) where
  behind : (after : List Mark) (p : Progress) → Tells es from piece before after p → drop p.marks after ≡ drop p.marks before
  behind after p tells =
      ap (λ n. drop n after) tells.count
      ∙ ap (λ (ms : List Mark). drop (length tells.ms) ms) tells.written
      ∙ drop_at (map held tells.ms) (drop (length tells.ms) before) (length tells.ms) (length-map tells.ms held)
      ∙ ap (λ n. drop n before) (sym tells.count)

  ended : {after : List Mark} {r : Result Progress Refusal} → Ends es from piece before after r → drop (marks_written r) after ≡ drop (marks_written r) before
  ended {after} (well {p = p} w) = behind after p w.tells
  ended {after} (unmatched {p = p} w) = behind after p w.tells
  ended (too_long long same) = same

  pub slots_stay : (after : List Mark) (r : Result Progress Refusal) → Outcome es from piece before after r → drop (marks_written r) after ≡ drop (marks_written r) before
  slots_stay after r outcome = ended (ends es from piece before after r outcome)
