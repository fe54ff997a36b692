use Rattle.figures.proofs.Worked.{empty_piece, share_01, share_02, code_0, code_1, code_2, width, size, a_after_ab, b_after_a, both_marks, one_slot, tandem}
use Rattle.figures.proofs.figures.Goals as goal

pub returns : goal.returns
returns c = record {
  empty_piece = empty_piece;
  share_01 = share_01;
  share_02 = share_02;
  code_0 = code_0;
  code_1 = code_1;
  code_2 = code_2;
  width = width;
  size = size;
  a_after_ab = a_after_ab;
  b_after_a = b_after_a;
  both_marks = both_marks;
  one_slot = one_slot;
  tandem = tandem;
}
