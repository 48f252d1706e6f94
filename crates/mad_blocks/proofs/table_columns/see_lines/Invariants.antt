use Rattle.mad_blocks.proofs.ReadTables.{ReadRowsSeen}
use Rattle.mad_blocks.proofs.table_columns.see_lines.Given as goal

abbrev pub invariant-loop-line : goal.invariant-loop-line
invariant-loop-line g l = ReadRowsSeen (g.S.LineSkin.rules l.skin) l.by_word l.fn.fit l.fit l.table l.line-index
