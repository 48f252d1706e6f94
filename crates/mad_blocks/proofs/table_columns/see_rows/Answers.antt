use Rattle.std.proofs.Common.{◌∷◌, ◌++◌, [], List, ◌+◌, drop, ap, ◌∙◌, subst, sym}
use Rattle.std.proofs.lemmas.List.{drop_all}
use Rattle.mad_widths.specs.SeenCells.{TableHasSeen}
use Rattle.mad_widths.specs.declared.tbl_fit.TblFit.{TblFit}
use Rattle.mad_blocks.specs.Tables.{measures_in}
use Rattle.mad_format.specs.declared.composite.FmtComposite.{FmtComposite}
use Rattle.mad_format.specs.declared.line.FmtLine.{FmtLine}
use Rattle.mad_blocks.proofs.TableWidths.{RowsSeen, rows_seen_more, rows_seen_other, rows_seen_all}
use Rattle.mad_format.proofs.WrapLemmas.{next_of}
use Rattle.mad_blocks.proofs.table_columns.see_rows.Goals.{in-TableRow, in_default}
use Rattle.mad_blocks.proofs.table_columns.see_rows.Goals as goal

pub loop-line-preserved : goal.loop-line-preserved
loop-line-preserved c =
    let next = next_of c.args.table.now c.loop-line.line-index c.line-item.result c.loop-line-test.true c.line-item.is in
    elim c.match-line.branch [
      | in-TableRow w ↦
          rows_seen_more c.args.by_word c.args.fit.now c.loop-line.fit c.match-line.fit c.args.table.now c.loop-line.line-index w.in-TableRow.row c.loop-line.invariant
          (next ∙ ap (λ (l : FmtLine). l ∷ drop (c.loop-line.line-index + 1) c.args.table.now) w.in-TableRow.is)
          (λ width n rows seen.
          subst (λ (f : TblFit). TableHasSeen f width (measures_in c.args.by_word n (rows ++ w.in-TableRow.row.cells.items ∷ []))) (sym w.fit-is)
          (subst (λ (cells : List FmtComposite). TableHasSeen w.see_row.new.fit width (measures_in c.args.by_word n (rows ++ cells ∷ []))) w.deref.ensures.value (w.see_row.ensures width n rows seen)))
      | in_default w ↦
          rows_seen_other c.args.by_word c.args.fit.now c.match-line.fit c.args.table.now c.loop-line.line-index c.line-item.result
          (subst (λ (f : TblFit). RowsSeen c.args.by_word c.args.fit.now f c.args.table.now c.loop-line.line-index) (sym w.fit-is) c.loop-line.invariant) next w.in_default.not-TableRow
    ]

pub returns : goal.returns
returns c = rows_seen_all c.args.by_word c.args.fit.now c.loop-line.fit c.args.table.now c.loop-line.line-index c.loop-line.invariant (drop_all c.loop-line.line-index c.args.table.now c.loop-line-test.false)
