use Rattle.std.proofs.Common.{rules, ◌≡◌}
use Rattle.pair_scanner.specs.Scanners.{seen}
use Rattle.pair_commission.specs.Laws.{done_reply}
use Rattle.pair_commission.specs.Runs.{replied}
use Rattle.pair_commission.proofs.Answering.{load_step}
use Rattle.pair_commission.proofs.run.load.Goals as goal

pub returns : goal.returns
returns g c =
    let same : replied c.map.result ≡ done_reply c.load-answer.result = search rules in
    load_step _ (seen g.C.Card.entries g.C.Card.size c.load-answer.new.two c.load-answer.new.one c.load-answer.new.self) _ _ _ _ _ _ c.load-answer.result _
    c.automaton.ensures c.as_slice.ensures.value c.as_slice-2.ensures.value c.load-answer.ensures.answer
    (λ e. let x = c.load-answer.ensures.refused e in λ i. seen g.C.Card.entries g.C.Card.size (x.1 i) (x.2 i) (x.0 i))
    same
