use Rattle.std.proofs.Common.{◌∷◌, length}
use Rattle.mad_md.specs.Lines.{content_of}
use Rattle.mad_blocks.specs.PartCursors.{lines_left}
use Rattle.mad_blocks.specs.TableCursors.{table_left}
use Rattle.mad_blocks.proofs.TableCursorLemmas.{PartSoFar}
use Rattle.mad_blocks.proofs.part_cursor.PartCursor.lay_table.Given as goal

abbrev pub invariant-loop-table : goal.invariant-loop-table
invariant-loop-table g l = PartSoFar (g.S.LineSkin.rules l.skin) l.fn.width (content_of l.fn.first ∷ lines_left l.fn.self) l.fn.lines.items (lines_left l.self) l.table l.lines.items

abbrev pub decreases-loop-table : goal.decreases-loop-table
decreases-loop-table g l = length (table_left l.table)
