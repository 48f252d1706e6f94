use Rattle.std.proofs.Common.{◌≡◌, ◌++◌, [], length}
use Rattle.markdown_lines.specs.Leaf.{rows_from}
use Rattle.markdown_lines.specs.LinkNumbers.{rows_numbers_from}
use Rattle.markdown_lines.specs.Shown.{shown}
use Rattle.markdown_lines.proofs.leaf.rows_of.Given as goal

abbrev pub invariant-loop-rest : goal.invariant-loop-rest
invariant-loop-rest l = record {
  rows : shown l.rows ++ rows_from l.row.items l.rest ≡ rows_from [] l.glyphs;
  numbers : l.numbers.items ++ rows_numbers_from l.row.items l.rest ≡ l.fn.numbers.items ++ rows_numbers_from [] l.glyphs;
}

abbrev pub decreases-loop-rest : goal.decreases-loop-rest
decreases-loop-rest l = length l.rest
