use Rattle.std.proofs.Common.{◌≡◌, List, ap, ◌∙◌}
use Rattle.std.proofs.Output.{has_written_of_eq}
use Rattle.mad_wrap.specs.WrapLines.{capped}
use Rattle.mad_rows.specs.Rows.{row_columns}
use Rattle.mad_format.specs.declared.composite.FmtComposite.{FmtComposite}
use Rattle.mad_rows.proofs.PieceLemmas.{row_bytes}
use Rattle.mad_rows.proofs.tables.PlacedTableRowDisplay.fmt.Goals as goal

pub returns-clause-writes : goal.returns-clause-writes
returns-clause-writes g c = λ p ok.
    let row = c.args.self.now in
    let cells = row.row.now.cells.items in
    let columns : c.row_columns-columns.result ≡ capped (row_columns row.skin.now cells) = c.row_columns-columns.ensures ∙ ap (λ (ls : List FmtComposite). capped (row_columns row.skin.now ls)) c.deref.ensures.value in
    let written = rw c.vertical-border.ensures at (c.write.ensures.writes p ok) in
    has_written_of_eq _ _ _ _ _
    (row_bytes row.skin.now row.outer row.filled c.spaces_beside.result.0 c.spaces_beside.result.1 c.deref-2.result.now cells c.deref-2.ensures.value (c.spaces_beside.ensures.left (row_columns row.skin.now cells) columns)
    (c.spaces_beside.ensures.right (row_columns row.skin.now cells) columns)) written
