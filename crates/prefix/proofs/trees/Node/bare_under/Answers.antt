use Rattle.std.proofs.Common.{sym, ap, ◌∙◌, eqb}
use Rattle.prefix.specs.Tree.{has}
use Rattle.prefix.specs.Subtrees.{bare_in}
use Rattle.prefix.proofs.trees.Node.bare_under.Goals as goal

pub returns-in-Some : goal.returns-in-Some
returns-in-Some c =
    let x = c.in-Some.state.0 in
    c.contains.ensures ∙ (ap (λ ys. has eqb x ys) c.of.ensures ∙ ap (bare_in c.args.states.now c.args.self) (sym c.in-Some.is))
