use Rattle.std.proofs.Common.{◌≡◌, ◌+◌, ◌-◌, ◌≤◌, length, refl, sym, ap, ◌∙◌, cond, subst, arith}
use Rattle.pairs.specs.Cards.{listed}
use Rattle.pair_walk.specs.Steps.{put_marks}
use Rattle.pair_walk.specs.Ways.{fits}
use Rattle.ternary.specs.declared.words.Mark.{Mark}
use Rattle.ternary.specs.Marks.{mark}
use Rattle.std.proofs.Common.{List}
use Rattle.scanner.proofs.Simulation.{bytes_from_typed}
use Rattle.pair_walk.proofs.Steps.{End, here_first, end_long, unwritten, end_lacking, end_full, end_last, end_all, here_on}
use Rattle.pair_walk.proofs.walk.walk.Goals as goal

pub returns-then-piece-gt-LONGEST_PIECE : goal.returns-then-piece-gt-LONGEST_PIECE
returns-then-piece-gt-LONGEST_PIECE g c =
    let x = end_long (g.C.Card.entries c.args.one.now) (listed c.args.two.now) c.args.from c.args.piece.now c.args.marks.now (bytes_from_typed _ (λ i. omega (arith, c.type_inv.piece i))) c.if-piece-gt-LONGEST_PIECE.true in
    record { answer = x.answer; marks = x.marks; refused = x.refused; same = x.same }

pub returns-in_default-search : goal.returns-in_default-search
returns-in_default-search g c =
    let x = end_lacking _ _ _ _ _ _ _ _ c.loop-rest.invariant c.if-piece-gt-LONGEST_PIECE.false (bytes_from_typed _ (λ i. omega (arith, c.type_inv.piece i))) c.stop.result c.in-len2-up.len_at_least c.in_default-search.ensures c.stop.ensures in
    record { answer = x.answer; marks = x.marks; refused = x.refused; same = x.same }

pub returns-in_default-put : goal.returns-in_default-put
returns-in_default-put g c =
    let none = unwritten _ _ c.in_default-put.ensures.written in
    let x = end_full _ _ _ _ _ _ _ _ c.loop-rest.invariant c.if-piece-gt-LONGEST_PIECE.false (bytes_from_typed _ (λ i. omega (arith, c.type_inv.piece i)))
    c.in-Some.next c.in-Some.class c.in-Some.stride c.no_slot.result c.in-len2-up.len_at_least c.in-Some.ensures none c.no_slot.ensures in
    let now : c.put.new.marks ≡ c.loop-rest.marks = c.in_default-put.ensures.marks ∙ ap (λ t. cond t (put_marks c.loop-rest.marks c.loop-rest.way.written (mark (c.loop-rest.way.taken + c.bytes-bytes.result - 1) c.in-Some.class)) c.loop-rest.marks) none in
    let y = subst (λ (l : List Mark). End (g.C.Card.entries c.args.one.now) (listed c.args.two.now) c.args.from c.args.piece.now c.args.marks.now l c.no_slot.result) (sym now) x in
    record { answer = y.answer; marks = y.marks; refused = y.refused; same = y.same }

pub loop-rest-preserved : goal.loop-rest-preserved
loop-rest-preserved g c =
    here_on _ _ _ _ _ _ _ _ c.loop-rest.invariant c.if-piece-gt-LONGEST_PIECE.false (bytes_from_typed _ (λ i. omega (arith, c.type_inv.piece i)))
    c.put.new.marks c.in-Some.next c.in-Some.class c.in-Some.stride c.bytes-bytes.result c.in-Some-put.written _ c.in-len2-up.len_at_least c.in-Some.ensures c.bytes-bytes.ensures c.in-Some-put.ensures.written c.in-Some-put.ensures.marks refl

pub returns-in-empty : goal.returns-in-empty
returns-in-empty g c =
    let x = end_all _ _ _ _ _ _ _ _ c.loop-rest.invariant c.if-piece-gt-LONGEST_PIECE.false (bytes_from_typed _ (λ i. omega (arith, c.type_inv.piece i))) c.stop-in-empty.result c.in-empty.len_below c.stop-in-empty.ensures in
    record { answer = x.answer; marks = x.marks; refused = x.refused; same = x.same }

pub returns-in-len1-up : goal.returns-in-len1-up
returns-in-len1-up g c =
    let x = end_last _ _ _ _ _ _ _ _ c.loop-rest.invariant c.if-piece-gt-LONGEST_PIECE.false (bytes_from_typed _ (λ i. omega (arith, c.type_inv.piece i))) c.last.new.marks c.last.result c.in-len1-up.len_at_least c.in_default.len_below c.last.ensures.answer c.last.ensures.marks in
    record { answer = x.answer; marks = x.marks; refused = x.refused; same = x.same }
