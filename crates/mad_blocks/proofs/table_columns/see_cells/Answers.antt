use Rattle.std.proofs.Common.{◌+◌, drop, refl}
use Rattle.std.proofs.lemmas.List.{drop_all}
use Rattle.mad_format.proofs.WrapLemmas.{next_of}
use Rattle.mad_blocks.proofs.ReadTables.{read_cell_seen, read_cells_end}
use Rattle.mad_blocks.proofs.TableWidths.{seen_all}
use Rattle.mad_blocks.proofs.table_columns.see_cells.Goals as goal

pub loop-column-init : goal.loop-column-init
loop-column-init g c = λ read h width n rows start. (_, start, refl)

pub loop-column-preserved : goal.loop-column-preserved
loop-column-preserved g c =
    read_cell_seen (g.S.LineSkin.rules c.args.skin.now) c.args.by_word c.args.fit.now c.loop-column.fit c.see_cell.new.self c.args.cells.now (drop (c.loop-column.column + 1) c.args.cells.now) c.loop-column.column c.index-cells-column.result c.measure_of_read.result c.loop-column.invariant
    (next_of c.args.cells.now c.loop-column.column c.index-cells-column.result c.loop-column-test.true c.index-cells-column.is) c.measure_of_read.ensures c.see_cell.ensures

pub returns : goal.returns
returns g c = λ read h. seen_all c.args.by_word c.args.fit.now c.loop-column.fit read c.loop-column.column (c.loop-column.invariant read h)
    (read_cells_end (g.S.LineSkin.rules c.args.skin.now) c.args.cells.now read c.loop-column.column h (drop_all c.loop-column.column c.args.cells.now c.loop-column-test.false))
