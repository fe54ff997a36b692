use Rattle.std.proofs.Common.{rules, ◌≡◌, sym, subst}
use Rattle.scanner.specs.Book.{Restarts}
use Rattle.scanner.specs.Scanners.{seen, done_told, ByTheBook}
use Rattle.commission.specs.Journeys.{told}
use Rattle.commission.proofs.run.restart.Goals as goal

pub returns-clause-keeps : goal.returns-clause-keeps
returns-clause-keeps g c = λ book keeps.
    let same : told c.map.result ≡ done_told c.restart-answer.result = search rules in
    subst (λ t. ByTheBook Restarts book t (seen g.C.Card.entries g.C.Card.size c.restart-answer.new.self)) (sym same) (c.restart-answer.ensures.keeps book keeps)
