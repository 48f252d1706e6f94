use Rattle.std.proofs.Common.{◌≡◌, ℕ, ◌-◌, length, get_or, take, map}
use Rattle.markdown_emphasis.specs.Left.{taken_at}
use Rattle.markdown_inlines.specs.Left.{piece_marks}
use Rattle.markdown_inlines.proofs.left.left_of.Given as goal

abbrev pub invariant-loop-pair : goal.invariant-loop-pair
invariant-loop-pair l = record {
  size : length l.left.items ≡ length l.pieces;
  left : (k : ℕ) → get_or l.left.items k 0 ≡ get_or (map piece_marks l.pieces) k 0 - taken_at (take l.pair-index l.pairs) k;
}
