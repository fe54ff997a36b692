use Rattle.std.proofs.Common.{◌++◌, length, sym, ap, ◌∙◌, arith, length-append}
use Rattle.prefix.specs.Listed.{words_for, closing}
use Rattle.prefix.proofs.Standing.{low_fits, high_fits}
use Rattle.prefix.proofs.Emitting.{covering_is, some_candidates, turn, words_byte, byte_alone, appended_in_turn}
use Rattle.prefix.proofs.trees.Subtrees.+emit.Goals as goal
use Rattle.prefix.proofs.trees.Subtrees.+emit.Goals.{emit-in-Some, emit-in_default}

pub emit-covering-covering-requires : goal.emit-covering-covering-requires
emit-covering-covering-requires t c =
    let w = c.args.self.now in
    let some = some_candidates w.row c.args.prefix w.nodes.items w.candidates.items c.args.number c.node-node.result c.node-node.ensures c.requires.stands in
    omega (arith, some, ap length c.deref.ensures.0)

pub emit_half-close-requires : goal.emit_half-close-requires
emit_half-close-requires t c =
    let alone = words_byte c.args.self.now.row c.args.half c.args.above c.if-half-eq8.true _ c.covering.ensures in
    omega (arith, ap length alone)

pub emit_half-returns-then-half-eq8 : goal.emit_half-returns-then-half-eq8
emit_half-returns-then-half-eq8 t c =
    let alone = words_byte c.args.self.now.row c.args.half c.args.above c.if-half-eq8.true _ c.covering.ensures in
    c.close.ensures ∙ ap (λ ws. c.args.words.now.items ++ ws) (sym alone)

pub emit-emit_half-requires : goal.emit-emit_half-requires
emit-emit_half-requires t c =
    let w = c.args.self.now in
    let p = c.args.prefix in
    let n = c.node-node.result in
    let is = covering_is w.row p w.nodes.items w.candidates.items c.args.number n c.node-node.ensures c.requires.stands c.args.above _ c.deref.ensures.0 _ c.covering-covering.ensures in
    let o = turn w p c.args.above c.args.number n c.node-node.ensures c.requires.stands c.in-Some.halves c.in-Some.is _ is _ _ c.halves.ensures.0 c.halves.ensures.1 _ c.or-below.ensures in
    let fits = low_fits p c.halves.result.0 c.halves.ensures.0 c.requires.inside.1 in
    (omega (arith, o.longer, fits), ((omega (arith, o.longer, fits), fits.1), (o.low, omega (arith, o.long))))

pub emit-emit_half-requires-in-Some : goal.emit-emit_half-requires-in-Some
emit-emit_half-requires-in-Some t c =
    let w = c.args.self.now in
    let p = c.args.prefix in
    let n = c.node-node.result in
    let is = covering_is w.row p w.nodes.items w.candidates.items c.args.number n c.node-node.ensures c.requires.stands c.args.above _ c.deref.ensures.0 _ c.covering-covering.ensures in
    let o = turn w p c.args.above c.args.number n c.node-node.ensures c.requires.stands c.in-Some.halves c.in-Some.is _ is _ _ c.halves.ensures.0 c.halves.ensures.1 _ c.or-below.ensures in
    let fits = high_fits p c.halves.result.1 c.halves.ensures.1 c.requires.inside.1 in
    let low = words_for w.row c.halves.result.0 c.or-below.result in
    (omega (arith, o.longer, fits), ((omega (arith, o.longer, fits), fits.1), (o.high, omega (arith, o.long, ap length c.emit_half.ensures, length-append c.args.words.now.items low))))

pub emit-close-requires : goal.emit-close-requires
emit-close-requires t c =
    let w = c.args.self.now in
    let p = c.args.prefix in
    let n = c.node-node.result in
    let is = covering_is w.row p w.nodes.items w.candidates.items c.args.number n c.node-node.ensures c.requires.stands c.args.above _ c.deref.ensures.0 _ c.covering-covering.ensures in
    elim c.match-node.branch [
      | emit-in-Some v ↦
          let o = turn w p c.args.above c.args.number n c.node-node.ensures c.requires.stands v.in-Some.halves v.in-Some.is _ is _ _ v.halves.ensures.0 v.halves.ensures.1 _ v.or-below.ensures in
          let low = words_for w.row v.halves.result.0 v.or-below.result in
          let high = words_for w.row v.halves.result.1 v.or-below.result in
          omega (arith, o.long, ap (λ m. length m.items) v.words-is, ap length v.emit_half.ensures, ap length v.emit_half-in-Some.ensures, length-append c.args.words.now.items low, length-append v.emit_half.new.words.items high)
      | emit-in_default v ↦ let byte = byte_alone w.row p w.nodes.items w.candidates.items c.args.number n c.node-node.ensures c.requires.stands (omega arith) v.in_default.is in absurd (omega arith)
    ]

pub emit-returns : goal.emit-returns
emit-returns t c =
    let w = c.args.self.now in
    let p = c.args.prefix in
    let n = c.node-node.result in
    let is = covering_is w.row p w.nodes.items w.candidates.items c.args.number n c.node-node.ensures c.requires.stands c.args.above _ c.deref.ensures.0 _ c.covering-covering.ensures in
    elim c.match-node.branch [
      | emit-in-Some v ↦
          let o = turn w p c.args.above c.args.number n c.node-node.ensures c.requires.stands v.in-Some.halves v.in-Some.is _ is _ _ v.halves.ensures.0 v.halves.ensures.1 _ v.or-below.ensures in
          c.close.ensures
          ∙ appended_in_turn c.args.words.now.items v.emit_half.new.words.items c.match-node.words.items _ _ _ (closing p c.covering-covering.result) o.words v.emit_half.ensures (ap (λ m. m.items) v.words-is ∙ v.emit_half-in-Some.ensures)
      | emit-in_default v ↦ let byte = byte_alone w.row p w.nodes.items w.candidates.items c.args.number n c.node-node.ensures c.requires.stands (omega arith) v.in_default.is in absurd (omega arith)
    ]
