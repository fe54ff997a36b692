use Rattle.std.proofs.Common.{◌≡◌, ◌+◌, ◌*◌, ◌<◌, ℕ, List, map, length, get_or, is_some, sym, ap, ◌∙◌, arith}
use Rattle.std.proofs.lemmas.Bool.{lt-ltb}
use Rattle.std.proofs.lemmas.List.{get_or-map, length-map}
use Rattle.ternary.specs.Refusals.{verdict}
use Rattle.ternary.proofs.Verdicts.{passed_none, stopped_at}
use Rattle.fields.proofs.Faults.{list_more, list_found, list_all, pass}
use Rattle.automaton.specs.declared.words.ByteRange.{ByteRange}
use Rattle.automaton.specs.File.{range_fault, range_of}
use Rattle.automaton.proofs.file.record.Record.check.Goals as goal

-- the range of a turn is one of those that the record says
turn_range : (n at i : ℕ) (chunks : List (List ℕ)) (bytes : List ℕ) (r : ByteRange) → i < length chunks → r ≡ range_of (get_or chunks i bytes) → range_fault n at r ≡ range_fault n at (get_or (map range_of chunks) i r)
turn_range n at i chunks bytes r lt e = ap (range_fault n at) (e ∙ sym (get_or-map range_of chunks i bytes r lt))

turn_inside : (i : ℕ) (chunks : List (List ℕ)) → i < length chunks → i < length (map range_of chunks)
turn_inside i chunks lt = rw length-map lt

pub returns-in_err-check : goal.returns-in_err-check
returns-in_err-check c =
    let self = c.args.self.now in
    let n = c.args.states in
    let i = c.loop-index.index in
    let at = c.args.at + 5 + 4 * i in
    let fault = range_fault n at c.from.result in
    stopped_at c.from_residual.result _ _ _ fault c.from_residual.ensures.1 c.in_err-check.ensures
    (pass _ (c.args.at + 3) _ (lt-ltb self.default.0 n c.if-self-states.false) ∙ c.loop-index.invariant)
    (list_found (range_fault n) 4 (map range_of self.ranges.now) at (at + 4) i (turn_inside i self.ranges.now c.loop-index-test.true) (omega arith)
    fault c.from.result (turn_range n at i self.ranges.now _ c.from.result c.loop-index-test.true c.from.ensures))

pub loop-index-preserved : goal.loop-index-preserved
loop-index-preserved c =
    let self = c.args.self.now in
    let n = c.args.states in
    let i = c.loop-index.index in
    let at = c.args.at + 5 + 4 * i in
    let fault = range_fault n at c.from.result in
    c.loop-index.invariant ∙
    list_more (range_fault n) 4 (map range_of self.ranges.now) at (c.args.at + 5 + 4 * (i + 1)) i (turn_inside i self.ranges.now c.loop-index-test.true) (omega arith)
    fault c.from.result (turn_range n at i self.ranges.now _ c.from.result c.loop-index-test.true c.from.ensures) (ap is_some (passed_none fault _ c.in_ok-check.ensures))

pub returns : goal.returns
returns c =
    let self = c.args.self.now in
    let n = c.args.states in
    let i = c.loop-index.index in
    ap verdict (sym (
    pass _ (c.args.at + 3) _ (lt-ltb self.default.0 n c.if-self-states.false)
    ∙ (c.loop-index.invariant ∙ list_all (range_fault n) 4 (map range_of self.ranges.now) (c.args.at + 5 + 4 * i) i (rw length-map c.loop-index-test.false))))
