use Rattle.std.proofs.Common.{◌≡◌, ◌<◌, length, ap, ⊎_elim, arith, length-append}
use Rattle.std.proofs.lemmas.Bool.{cases_lt}
use Rattle.automaton.specs.File.{record_bytes}
use Rattle.automaton.specs.Sound.{meant}
use Rattle.automaton_writer.specs.Filed.{record_by}
use Rattle.automaton_writer.proofs.Files.{done, done-more, done-all, length-file}
use Rattle.automaton_writer.proofs.write.file_size.Goals as goal

pub loop-number-preserved : goal.loop-number-preserved
loop-number-preserved c =
    let a = meant c.args.automaton.now in
    let s = c.loop-number.number in
    let below : s < a.states = omega (arith, c.loop-number-test.true, c.states-number-end.ensures) in
    let field = record_bytes (record_by (a.class s) (a.next s)) in
    record {
      size = omega (
        arith,
        c.loop-number.invariant.size,
        c.size-size.ensures,
        ap length c.record_of.ensures.bytes,
        ap length (done-more a s below),
        length-append (done a s) field,
      );
      classes = λ k lt. ⊎_elim (λ before. c.loop-number.invariant.classes k before) (λ ge. let here : k ≡ s = omega arith in omega (arith, ap a.class here, c.record_of.ensures.class)) (cases_lt k s);
      few = omega (arith, c.loop-number.invariant.few, c.size-size.ensures, c.record_of.ensures.few);
    }

pub returns-clause-size : goal.returns-clause-size
returns-clause-size c =
    let a = meant c.args.automaton.now in
    omega (
      arith,
      c.loop-number.invariant.size,
      ap length (done-all a c.loop-number.number (omega (arith, c.loop-number-test.false, c.states-number-end.ensures))),
      length-file a,
    )

pub returns-clause-classes : goal.returns-clause-classes
returns-clause-classes c = λ s lt. c.loop-number.invariant.classes s (omega (arith, lt, c.loop-number-test.false, c.states-number-end.ensures))
