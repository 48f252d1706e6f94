use Rattle.std.proofs.Common.{◌≡◌, ◌∙◌, ℕ, List, Option, None, drop, string_bytes, ap, sym}
use Rattle.std.specs.List.{slice_get}
use Rattle.mad_list_rows.specs.declared.list_rows.ListRow.{ListRow}
use Rattle.mad_list_columns.specs.Drawing.{is_selected, shown_from}
use Rattle.mad_list_columns.proofs.RowLemmas.{none_from, none_past, row_written, selected_is, some_from}
use Rattle.mad_list_columns.proofs.written_rows.push_row_from.Goals as goal

pub returns-in_default-clause-next : goal.returns-in_default-clause-next
returns-in_default-clause-next g c =
    let rows = c.args.rows.now.rows in
    ap (shown_from rows) c.row_counts-past_all.ensures.all ∙ none_past rows ∙ sym (ap (drop 1) (none_from rows c.args.from c.in_default.ensures.first))

pub returns-in_default-clause-writes : goal.returns-in_default-clause-writes
returns-in_default-clause-writes g c =
    (None, ap (λ (ps : List (ℕ × ListRow g.row.T.Denot)). slice_get ps 0) (none_from c.args.rows.now.rows c.args.from c.in_default.ensures.first), c.in_ok-push_clear.ensures)

pub returns-clause-next : goal.returns-clause-next
returns-clause-next g c =
    sym (ap (drop 1) (some_from c.args.rows.now.rows c.args.from c.in-Some.i c.in-Some.ensures.first.0).parts)

pub returns-clause-writes : goal.returns-clause-writes
returns-clause-writes g c =
    let selected : c.eq-selected.result ≡ is_selected c.args.rows.now.selection c.in-Some.i =
    selected_is c.selection.result c.in-Some.i c.eq-selected.result c.eq-selected.ensures ∙ ap (λ (s : Option ℕ). is_selected s c.in-Some.i) c.selection.ensures.value in
    row_written g.E.CellExtract.extracts c.args.table.now c.args.columns.now c.args.rows.now.selection c.args.rows.now.rows c.args.from c.in-Some.i c.in-Some.content.now c.eq-selected.result (string_bytes c.args.bytes.now) _ c.in-Some.ensures.first.0 c.in-Some.ensures.first.1 selected c.in_ok-push_cells.ensures
