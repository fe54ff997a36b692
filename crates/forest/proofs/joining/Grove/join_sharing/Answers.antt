use Rattle.std.proofs.Common.{rules, ◌≡◌, true, false, ◌∙◌}
use Rattle.automaton.specs.Sound.{meant}
use Rattle.forest.specs.Joining.{trees_in}
use Rattle.forest.proofs.Groves.{rows_more, none_joined, one_passed}
use Rattle.forest.proofs.joining.Grove.join_sharing.Goals as goal

pub loop-s-preserved : goal.loop-s-preserved
loop-s-preserved c =
    c.join_row.ensures
    ∙ rows_more (meant c.args.counts.now.automaton) (trees_in c.args.self.now) (trees_in c.loop-s.self) c.args.shared c.loop-s.s c.loop-s.invariant

pub returns-then-not-meets : goal.returns-then-not-meets
returns-then-not-meets c =
    let no : c.meets.result ≡ false = search rules in
    none_joined (meant c.args.counts.now.automaton) (trees_in c.args.self.now) c.args.shared (c.meets.ensures no)

pub returns-then-is_one_tree : goal.returns-then-is_one_tree
returns-then-is_one_tree c =
    let yes : c.is_one_tree.result ≡ true = search rules in
    one_passed (meant c.args.counts.now.automaton) (trees_in c.args.self.now) c.args.shared (rw c.states.ensures.value at c.is_one_tree.ensures.0 yes)
