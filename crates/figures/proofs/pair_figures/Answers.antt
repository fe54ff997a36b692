use Rattle.figures.proofs.PairWorked.{size, image, x_a, b_a, a_b, x_x, both_marks, one_slot, two_silent, one_silent, empty_piece, alone, swapped, removed}
use Rattle.figures.proofs.pair_figures.Goals as goal

pub returns : goal.returns
returns c = record {
  size = size;
  image = image;
  x_a = x_a;
  b_a = b_a;
  a_b = a_b;
  x_x = x_x;
  both_marks = both_marks;
  one_slot = one_slot;
  two_silent = two_silent;
  one_silent = one_silent;
  empty_piece = empty_piece;
  alone = alone;
  swapped = swapped;
  removed = removed;
}
