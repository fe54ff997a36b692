use Rattle.std.proofs.Common.{◌≡◌, ℕ, cond, is_some, ap, ◌∙◌, arith}
use Rattle.std.specs.List.{slice_get}
use Rattle.std.specs.Option.{unwrap_or}
use Rattle.commission.specs.declared.words.Call.TheVariants.{Load}
use Rattle.pattern_service.proofs.service.commission_calls.Goals as goal

pub unreachable-requires : goal.unreachable-requires
unreachable-requires g c =
    let e = c.in_default.ensures.value ∙ ap (λ xs. slice_get xs 0) c.requires.2 in
    let z : ◌≡◌ {A = ℕ} 0 1 = ap (λ o. cond (is_some o) 1 0) e in
    omega arith

pub unreachable-requires-in_default-first : goal.unreachable-requires-in_default-first
unreachable-requires-in_default-first g c =
    let load = Load c.requires.0 in
    c.in_default-first.not-Load c.requires.0
    (ap (λ o. unwrap_or o load) (c.in-Some.ensures.value ∙ ap (λ xs. slice_get xs 0) c.requires.2))
