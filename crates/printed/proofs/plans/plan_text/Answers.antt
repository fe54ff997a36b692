use Rattle.std.proofs.Common.{◌≡◌, ℕ, List, string_bytes, ap, ◌∙◌, length, arith}
use Rattle.forest.specs.Deferment.{forest_of}
use Rattle.forest.proofs.Plans.{placement_at}
use Rattle.printed.specs.Lines.{width_text, state_text, ended}
use Rattle.printed.proofs.PlanLines.{states_more}
use Rattle.printed.proofs.plans.plan_text.Goals as goal

pub loop-s-preserved : goal.loop-s-preserved
loop-s-preserved c a of =
    let f = forest_of a in
    let s = c.loop-s.s in
    let given = c.placements-placements in
    let wide : c.width-width.result ≡ f.width = c.width-width.ensures ∙ of.1.wide in
    let is = placement_at f a.states s given.result.now _ (given.ensures.placed a of) (omega (arith, c.loop-s-test.true, of.0, ap length given.ensures.value)) in
    let line = c.in_ok-line.ensures ∙ (λ i. state_text (wide i) s (is i)) in
    states_more f s (ended (width_text f.width)) (string_bytes c.loop-s.text) c.as_str.result.now (string_bytes c.push_str.new.self) (c.loop-s.invariant a of)
    (c.as_str.ensures.value ∙ (c.in_ok-ended_line.ensures ∙ ap (λ (bs : List ℕ). ended bs) line)) c.in_ok-push_str.ensures.bytes
