use Rattle.mad_list_columns.proofs.RowLemmas.{cell_written}
use Rattle.mad_list_columns.proofs.written_rows.push_cell.Goals as goal

pub returns : goal.returns
returns g c =
    cell_written g.E.CellExtract.extracts c.args.column.now c.args.selected c.args.content.now c.in_ok-cell.cell c.style_in_row-style.result _ _ _ c.push_spaced.result c.in_ok-cell.ensures c.know_style.ensures c.style_in_row-style.ensures c.as_str.ensures.value c.push_spaced.ensures
