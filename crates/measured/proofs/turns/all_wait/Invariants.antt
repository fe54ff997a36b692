use Rattle.std.proofs.Common.{◌≡◌, Some}
use Rattle.ternary.specs.declared.words.StateCode.{StateCode}
use Rattle.gateway.specs.Gateways.{seen}
use Rattle.measured.proofs.Waiting.{FirstWait}
use Rattle.measured.proofs.turns.all_wait.Given as goal

-- the coaches so far wait
abbrev pub invariant-loop-coach : goal.invariant-loop-coach
invariant-loop-coach g l =
    (code : StateCode) → l.fn.gateway.start ≡ Some code → l.fn.gateway.next ≡ 0 → FirstWait l.coach (g.C.Card.entries l.fn.gateway.card) code l.bytes (seen g.C.Card.entries g.C.Card.size l.gateway)
