use Rattle.std.proofs.Common.{rules, ◌≡◌, Bool, ◌++◌, take, sym, ap, ◌∙◌}
use Rattle.std.specs.Option.{option_copied, option_or}
use Rattle.std.specs.List.{find}
use Rattle.std.proofs.lemmas.List.{take-append-drop}
use Rattle.std.proofs.lemmas.List.Folds.{find-append}
use Rattle.ternary.specs.declared.entry.Entry.{Entry}
use Rattle.ternary.specs.Match.{matches}
use Rattle.ternary.proofs.entry.matching.find.Goals as goal

-- the head's first match, else that of the others, is the first of both
pub returns : goal.returns
returns c =
    let hit : Entry → Bool = λ e. matches e c.args.code.0 c.args.byte in
    let es = c.args.entries.now in
    let told : option_copied c.or_else.result ≡ option_or (find hit c.split_at.result.0.now) (find hit c.split_at.result.1.now) = search rules in
    let n = c.min.result in
    let whole : c.split_at.result.0.now ++ c.split_at.result.1.now ≡ es =
    ap (λ xs. xs ++ c.split_at.result.1.now) c.split_at.ensures.front ∙ (ap (λ ys. take n es ++ ys) c.split_at.ensures.back ∙ take-append-drop n es) in
    told ∙ (sym (find-append hit c.split_at.result.0.now c.split_at.result.1.now) ∙ ap (find hit) whole)
