use Rattle.mad_blocks.proofs.ReadTables.{ReadCellsSeen}
use Rattle.mad_blocks.proofs.table_columns.see_cells.Given as goal

abbrev pub invariant-loop-column : goal.invariant-loop-column
invariant-loop-column g l = ReadCellsSeen (g.S.LineSkin.rules l.skin) l.by_word l.fn.fit l.fit l.cells l.column
