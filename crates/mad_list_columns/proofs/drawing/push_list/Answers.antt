use Rattle.mad_list_columns.proofs.RowLemmas.{list_written}
use Rattle.mad_list_columns.proofs.drawing.push_list.Goals as goal

pub returns : goal.returns
returns g c =
    list_written g.E.CellExtract.extracts c.args.style.now c.args.columns.now c.args.area.now c.args.rows.now _ _ _ c.in_ok-push_head.ensures c.in_ok-push_body.ensures
