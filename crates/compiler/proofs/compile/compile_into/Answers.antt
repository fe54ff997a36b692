use Rattle.std.proofs.Common.{length, sym, ap, ◌∙◌, inl, inr, ⊎_elim, arith}
use Rattle.patterns.specs.Subsets.{automaton_of}
use Rattle.fields.specs.Fields.{written}
use Rattle.syntax.specs.Compile.{texts_of, expressions}
use Rattle.positions.proofs.Texts.{small-parts, length-expressions}
use Rattle.compiler.specs.Compiled.{answer_to, rows_of_outcome, classes_of_outcome, compile_answer, compiled_rows, compiled_classes}
use Rattle.compiler.proofs.Filling.{count-is}
use Rattle.compiler.proofs.Outcomes.{outside-is, wrong-is, large-is, many-is, built-is, not-too-many, answer-ok, answer-short}
use Rattle.compiler.proofs.compile.compile_into.Goals as goal

pub returns-then-one_leaves-clause-answer : goal.returns-then-one_leaves-clause-answer
unfolding compile_answer
returns-then-one_leaves-clause-answer c =
    sym (ap (λ o. answer_to o (length c.args.successors.now) (length c.args.classes.now)) (outside-is c.args.buffer.now c.args.patterns.now (sym c.one_leaves.ensures ∙ c.if-one_leaves.true)))

pub returns-in-Some-clause-answer : goal.returns-in-Some-clause-answer
unfolding compile_answer
returns-in-Some-clause-answer c =
    sym (ap (λ o. answer_to o (length c.args.successors.now) (length c.args.classes.now))
    (wrong-is c.args.buffer.now c.args.patterns.now (sym c.one_leaves.ensures ∙ c.if-one_leaves.false) (c.in-Some.pattern, c.in-Some.place) (sym c.first_wrong.ensures ∙ c.in-Some.is)))

pub returns-then-is_too_large-clause-answer : goal.returns-then-is_too_large-clause-answer
unfolding compile_answer
returns-then-is_too_large-clause-answer c =
    sym (ap (λ o. answer_to o (length c.args.successors.now) (length c.args.classes.now))
    (large-is c.args.buffer.now c.args.patterns.now (sym c.one_leaves.ensures ∙ c.if-one_leaves.false) (sym c.first_wrong.ensures ∙ c.in_default.is) (sym c.is_too_large.ensures ∙ c.if-is_too_large.true)))

pub returns-in_default-explore-clause-answer : goal.returns-in_default-explore-clause-answer
unfolding compile_answer
returns-in_default-explore-clause-answer c =
    let ts = texts_of c.args.buffer.now c.args.patterns.now in
    let small = small-parts ts (sym c.is_too_large.ensures ∙ c.if-is_too_large.false) in
    sym (ap (λ o. answer_to o (length c.args.successors.now) (length c.args.classes.now))
    (many-is c.args.buffer.now c.args.patterns.now (sym c.one_leaves.ensures ∙ c.if-one_leaves.false) (sym c.first_wrong.ensures ∙ c.in_default.is) (sym c.is_too_large.ensures ∙ c.if-is_too_large.false)
    (c.in_default-explore.ensures.none (expressions ts) small.1 c.build-positions.ensures)))

pub overflow_mul-states : goal.overflow_mul-states
overflow_mul-states c =
    let ts = texts_of c.args.buffer.now c.args.patterns.now in
    let small = small-parts ts (sym c.is_too_large.ensures ∙ c.if-is_too_large.false) in
    let is = c.in-Some-explore.ensures.some (expressions ts) small.1 c.build-positions.ensures in
    omega (arith, is.few)

pub returns-then-successors-states-clause-answer : goal.returns-then-successors-states-clause-answer
unfolding compile_answer
returns-then-successors-states-clause-answer c =
    let ts = texts_of c.args.buffer.now c.args.patterns.now in
    let rs = expressions ts in
    let small = small-parts ts (sym c.is_too_large.ensures ∙ c.if-is_too_large.false) in
    let is = c.in-Some-explore.ensures.some rs small.1 c.build-positions.ensures in
    let n = count-is c.in-Some-explore.states rs is in
    answer-short (automaton_of rs) (length c.args.successors.now) (length c.args.classes.now) c.in-Some-explore.states.count n
    (⊎_elim (λ h. inl h) (λ h. inr h.1) c.then-successors-states.either)
    ∙ sym (ap (λ o. answer_to o (length c.args.successors.now) (length c.args.classes.now))
    (built-is c.args.buffer.now c.args.patterns.now (sym c.one_leaves.ensures ∙ c.if-one_leaves.false) (sym c.first_wrong.ensures ∙ c.in_default.is) (sym c.is_too_large.ensures ∙ c.if-is_too_large.false)
    (not-too-many rs (omega (arith, n, is.few)))))

pub fill-requires-clause-patterns : goal.fill-requires-clause-patterns
fill-requires-clause-patterns c =
    let ts = texts_of c.args.buffer.now c.args.patterns.now in
    let small = small-parts ts (sym c.is_too_large.ensures ∙ c.if-is_too_large.false) in
    omega (arith, small.0, c.build-positions.ensures.patterns, length-expressions ts)

pub overflow_cast-result : goal.overflow_cast-result
overflow_cast-result c =
    let ts = texts_of c.args.buffer.now c.args.patterns.now in
    let small = small-parts ts (sym c.is_too_large.ensures ∙ c.if-is_too_large.false) in
    let is = c.in-Some-explore.ensures.some (expressions ts) small.1 c.build-positions.ensures in
    omega (arith, is.few)

pub returns-clause-answer : goal.returns-clause-answer
unfolding compile_answer
returns-clause-answer c =
    let ts = texts_of c.args.buffer.now c.args.patterns.now in
    let rs = expressions ts in
    let small = small-parts ts (sym c.is_too_large.ensures ∙ c.if-is_too_large.false) in
    let is = c.in-Some-explore.ensures.some rs small.1 c.build-positions.ensures in
    let n = count-is c.in-Some-explore.states rs is in
    answer-ok (automaton_of rs) (length c.args.successors.now) (length c.args.classes.now) c.in-Some-explore.states.count n c.if-successors-states.false c.if-classes-states.false
    ∙ sym (ap (λ o. answer_to o (length c.args.successors.now) (length c.args.classes.now))
    (built-is c.args.buffer.now c.args.patterns.now (sym c.one_leaves.ensures ∙ c.if-one_leaves.false) (sym c.first_wrong.ensures ∙ c.in_default.is) (sym c.is_too_large.ensures ∙ c.if-is_too_large.false)
    (not-too-many rs (omega (arith, n, is.few)))))

pub returns-clause-successors : goal.returns-clause-successors
unfolding compiled_rows
returns-clause-successors c =
    let ts = texts_of c.args.buffer.now c.args.patterns.now in
    let rs = expressions ts in
    let small = small-parts ts (sym c.is_too_large.ensures ∙ c.if-is_too_large.false) in
    let is = c.in-Some-explore.ensures.some rs small.1 c.build-positions.ensures in
    let n = count-is c.in-Some-explore.states rs is in
    c.fill.ensures.rows rs small.1 c.build-positions.ensures is
    ∙ sym (ap (λ o. written c.args.successors.now 0 (rows_of_outcome o))
    (built-is c.args.buffer.now c.args.patterns.now (sym c.one_leaves.ensures ∙ c.if-one_leaves.false) (sym c.first_wrong.ensures ∙ c.in_default.is) (sym c.is_too_large.ensures ∙ c.if-is_too_large.false)
    (not-too-many rs (omega (arith, n, is.few)))))

pub returns-clause-classes : goal.returns-clause-classes
unfolding compiled_classes
returns-clause-classes c =
    let ts = texts_of c.args.buffer.now c.args.patterns.now in
    let rs = expressions ts in
    let small = small-parts ts (sym c.is_too_large.ensures ∙ c.if-is_too_large.false) in
    let is = c.in-Some-explore.ensures.some rs small.1 c.build-positions.ensures in
    let n = count-is c.in-Some-explore.states rs is in
    c.fill.ensures.marks rs small.1 c.build-positions.ensures is
    ∙ sym (ap (λ o. written c.args.classes.now 0 (classes_of_outcome o))
    (built-is c.args.buffer.now c.args.patterns.now (sym c.one_leaves.ensures ∙ c.if-one_leaves.false) (sym c.first_wrong.ensures ∙ c.in_default.is) (sym c.is_too_large.ensures ∙ c.if-is_too_large.false)
    (not-too-many rs (omega (arith, n, is.few)))))

pub returns-clause-built : goal.returns-clause-built
returns-clause-built c =
    let ts = texts_of c.args.buffer.now c.args.patterns.now in
    let rs = expressions ts in
    let small = small-parts ts (sym c.is_too_large.ensures ∙ c.if-is_too_large.false) in
    let is = c.in-Some-explore.ensures.some rs small.1 c.build-positions.ensures in
    let few = not-too-many rs (omega (arith, count-is c.in-Some-explore.states rs is, is.few)) in
    record {
      few = few;
      outcome = built-is c.args.buffer.now c.args.patterns.now (sym c.one_leaves.ensures ∙ c.if-one_leaves.false) (sym c.first_wrong.ensures ∙ c.in_default.is) (sym c.is_too_large.ensures ∙ c.if-is_too_large.false) few;
    }
