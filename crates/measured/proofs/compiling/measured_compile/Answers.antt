use Rattle.std.proofs.Common.{sym, ap, ap₂, ◌∙◌}
use Rattle.measured.specs.Compiling.{classes_sum, compile_sum}
use lib.ListN.{replicate}
use Rattle.automaton.specs.File.{state_no, filled}
use Rattle.compiler.specs.Compiled.{compile_answer, compiled_rows, compiled_classes}
use Rattle.measured.proofs.compiling.measured_compile.Goals as goal

pub returns-in-Ok : goal.returns-in-Ok
returns-in-Ok c = record {
  answer = c.compile.result;
  is = c.compile.ensures.answer ∙ ap (λ ps. compile_answer c.args.buffer.now ps 131072 512) c.places.ensures;
  sum =
      c.classes_sum.ensures
      ∙ ap (classes_sum c.compile.new.classes) c.states_sum.ensures
      ∙ ap (λ r. compile_sum r c.compile.new.successors c.compile.new.classes) (sym c.in-Ok.is)
      ∙ ap₂ (λ s t. compile_sum c.compile.result s t)
      (c.compile.ensures.successors ∙ ap (λ ps. filled c.compile.result (replicate 131072 (state_no 0)) (compiled_rows c.args.buffer.now ps)) c.places.ensures)
      (c.compile.ensures.classes ∙ ap (λ ps. filled c.compile.result (replicate 512 0) (compiled_classes c.args.buffer.now ps)) c.places.ensures);
}

pub returns-in-Err : goal.returns-in-Err
returns-in-Err c = record {
  answer = c.compile.result;
  is = c.compile.ensures.answer ∙ ap (λ ps. compile_answer c.args.buffer.now ps 131072 512) c.places.ensures;
  sum =
      c.number.ensures
      ∙ ap (λ r. compile_sum r c.compile.new.successors c.compile.new.classes) (sym c.in-Err.is)
      ∙ ap₂ (λ s t. compile_sum c.compile.result s t)
      (c.compile.ensures.successors ∙ ap (λ ps. filled c.compile.result (replicate 131072 (state_no 0)) (compiled_rows c.args.buffer.now ps)) c.places.ensures)
      (c.compile.ensures.classes ∙ ap (λ ps. filled c.compile.result (replicate 512 0) (compiled_classes c.args.buffer.now ps)) c.places.ensures);
}
