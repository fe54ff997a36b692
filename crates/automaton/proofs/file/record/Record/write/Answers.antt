use Rattle.std.proofs.Common.{rules, ◌≡◌, List, [], ◌∷◌, map, replicate, length, sym, refl, ap, ◌∙◌, arith}
use Rattle.std.specs.List.{range_with_len}
use Rattle.automaton.specs.File.{next_by, range_of}
use Rattle.automaton.proofs.Rows.{one_successor}
use Rattle.automaton.proofs.file.record.Record.write.Goals as goal

no_item : {X : Type 0} (xs : List X) → length xs ≡ 0 → xs ≡ []
no_item [] none = refl
no_item (x ∷ xs) none = absurd (omega (arith, none))

pub returns-then-is_empty : goal.returns-then-is_empty
returns-then-is_empty c =
    let default = c.args.self.now.default in
    let none : c.args.self.now.ranges.now ≡ [] = no_item c.args.self.now.ranges.now (search rules) in
    let filled : c.fill.new.self ≡ replicate (length c.args.row.now) default = c.fill.ensures.after (λ y same. search rules) in
    filled ∙ (ap (λ n. replicate n default) c.requires ∙ (one_successor default ∙ ap (λ rs. map (next_by (map range_of rs) default) (range_with_len 0 256)) (sym none)))
