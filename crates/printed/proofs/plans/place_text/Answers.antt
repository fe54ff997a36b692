use Rattle.std.proofs.Common.{◌++◌, string_bytes, codes}
use Rattle.printed.specs.Lines.{place_text}
use Rattle.printed.proofs.Spelling.{made_as}
use Rattle.printed.proofs.plans.place_text.Goals as goal

pub returns : goal.returns
returns c =
    let code = c.in_ok-code.ensures in
    let shadow = c.in_ok-shadow.ensures in
    let parent = c.in_ok-parent.ensures in
    made_as string_bytes c.format.result
    (codes "code " ++ (string_bytes c.in_ok-code.code ++ (codes " shadow " ++ (string_bytes c.in_ok-shadow.shadow ++ (codes " " ++ string_bytes c.in_ok-parent.parent)))))
    (place_text c.args.width c.args.placement)
    c.format.ensures.ok
    (λ i. codes "code " ++ (code i ++ (codes " shadow " ++ (shadow i ++ (codes " " ++ parent i)))))
