use Rattle.std.proofs.Common.{[], ◌∷◌, refl, subst}
use Rattle.subsets.specs.States.{AreStates}
use Rattle.subsets.proofs.StateLemmas.{no-states, empty-within, empty-flags}
use Rattle.subsets.proofs.IndexLemmas.{none-indexed}
use Rattle.subsets.proofs.states.States.new.Goals as goal

pub push-requires-clause-indexed : goal.push-requires-clause-indexed
push-requires-clause-indexed c = none-indexed _ refl

pub returns-clause-states : goal.returns-clause-states
returns-clause-states c = λ rs.
    let none = c.empty-none.result in
    subst (λ f. AreStates c.push.new.self rs (f ∷ [])) (empty-flags none c.empty-none.ensures rs)
    (c.push.ensures.states rs [] (no-states _ refl refl rs) (empty-within none c.empty-none.ensures rs))
