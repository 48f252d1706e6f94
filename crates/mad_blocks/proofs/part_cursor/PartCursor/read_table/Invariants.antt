use Rattle.std.proofs.Common.{length, map}
use Rattle.mad_md.specs.Lines.{content_of}
use Rattle.mad_blocks.specs.PartCursors.{lines_left}
use Rattle.mad_blocks.proofs.TableCursorLemmas.{TableSoFar}
use Rattle.mad_blocks.proofs.part_cursor.PartCursor.read_table.Given as goal

abbrev pub invariant-loop-table : goal.invariant-loop-table
invariant-loop-table g l = TableSoFar (content_of l.fn.first) (lines_left l.fn.self) (lines_left l.self) (map content_of l.table.items)

abbrev pub decreases-loop-table : goal.decreases-loop-table
decreases-loop-table g l = length (lines_left l.self)
