use Rattle.std.proofs.Common.{◌≡◌, ◌++◌}
use Rattle.markdown_cells.specs.Cells.{alignments}
use Rattle.markdown_cells.proofs.cells.alignments.Given as goal

abbrev pub invariant-loop-more : goal.invariant-loop-more
invariant-loop-more l = l.rule.items ++ alignments l.more l.rest ≡ alignments l.columns l.row

abbrev pub decreases-loop-more : goal.decreases-loop-more
decreases-loop-more l = l.more
