use Rattle.std.proofs.Common.{subst}
use Rattle.std.proofs.lemmas.List.{drop_all}
use Rattle.mad_widths.specs.SeenCells.{TableHasSeen, cell_added}
use Rattle.mad_format.proofs.WrapLemmas.{next_of}
use Rattle.mad_blocks.proofs.TableWidths.{seen_more, seen_all}
use Rattle.mad_blocks.proofs.table_columns.see_row.Goals as goal

pub loop-column-preserved : goal.loop-column-preserved
loop-column-preserved c =
    seen_more c.args.by_word c.args.fit.now c.loop-column.fit c.see_cell.new.self c.args.cells.now c.loop-column.column c.index-cells-column.result c.loop-column.invariant
    (next_of c.args.cells.now c.loop-column.column c.index-cells-column.result c.loop-column-test.true c.index-cells-column.is)
    (λ width seen h. subst (λ n. TableHasSeen c.see_cell.new.self width (cell_added seen c.loop-column.column n)) c.measure_of.ensures (c.see_cell.ensures width seen h))

pub returns : goal.returns
returns c = seen_all c.args.by_word c.args.fit.now c.loop-column.fit c.args.cells.now c.loop-column.column c.loop-column.invariant (drop_all c.loop-column.column c.args.cells.now c.loop-column-test.false)
