-- What a turn answers, taken apart. Assumes nothing.
use Rattle.std.specs.Prelude.{⊤, Some, None, Ok, Err, Option, Result}
use Rattle.ternary.specs.declared.refusal.Refusal.{Refusal}
use Rattle.gateway.specs.declared.words.Served.{Served}

-- a fact of a turn that finds no bytes waiting
abbrev pub IfIdle : Result (Option Served) Refusal → Type 0 → Type 0
IfIdle (Ok None) fact = fact
IfIdle (Ok (Some served)) fact = ⊤
IfIdle (Err why) fact = ⊤

-- a fact of what a turn serves
abbrev pub IfServes : Result (Option Served) Refusal → (Served → Type 0) → Type 0
IfServes (Ok None) Fact = ⊤
IfServes (Ok (Some served)) Fact = Fact served
IfServes (Err why) Fact = ⊤
