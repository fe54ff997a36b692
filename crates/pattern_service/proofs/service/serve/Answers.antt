use Rattle.std.proofs.Common.{subst, ◌∙◌}
use Rattle.syntax.specs.Compile.{texts_of}
use Rattle.pattern_service.specs.Filed.{FiledOf, FilingAnswer, IsGuaranteed}
use Rattle.pattern_service.proofs.Marking.{marks-of-texts}
use Rattle.pattern_service.proofs.service.serve.Goals as goal

pub commission_calls-requires : goal.commission_calls-requires
commission_calls-requires g c = (c.in-Ok.filing, c.args.journey.items, c.as_slice.ensures.value ∙ c.in_ok-insert.ensures.items)

pub returns : goal.returns
returns g c =
    let f = c.in-Ok.filing in
    let texts = texts_of c.args.buffer.now c.args.patterns.now in
    let of : FiledOf texts f = subst (FilingAnswer c.args.buffer.now c.args.patterns.now) c.in-Ok.is c.in_ok-why.ensures in
    let guarantee : IsGuaranteed f (g.C.Card.size c.args.card) c.args.journey.items c.in_ok-report.report =
    c.in_ok-report.ensures f c.args.journey.items (c.as_slice.ensures.value ∙ c.in_ok-insert.ensures.items) in
    record {
      filing = f;
      of_texts = of;
      calls = c.in_ok-insert.ensures.items;
      checked = guarantee.4.exact.1 of.image;
      guarantee = guarantee;
      marks = marks-of-texts texts f (g.C.Card.size c.args.card) c.args.journey.items c.in_ok-report.report of guarantee;
    }
