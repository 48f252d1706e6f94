use Rattle.std.proofs.Common.{◌∷◌, ◌++◌, [], List, ◌+◌, drop, map, subst, sym}
use Rattle.std.proofs.lemmas.List.{drop_all}
use Rattle.mad_md.specs.Lines.{styled_runs}
use Rattle.mad_md.specs.declared.composite.Composite.{Composite}
use Rattle.mad_widths.specs.SeenCells.{TableHasSeen}
use Rattle.mad_widths.specs.declared.tbl_fit.TblFit.{TblFit}
use Rattle.mad_format.specs.FmtLines.{AreCompositesRead}
use Rattle.mad_format.proofs.WrapLemmas.{next_of}
use Rattle.mad_blocks.specs.Tables.{measures_in}
use Rattle.mad_blocks.proofs.ReadTables.{ReadRowsSeen, read_row_seen, read_other_seen, read_rows_end}
use Rattle.mad_blocks.proofs.TableWidths.{rows_seen_all, rows_seen_start}
use Rattle.mad_blocks.proofs.table_columns.see_lines.Goals.{in-TableRow, in_default}
use Rattle.mad_blocks.proofs.table_columns.see_lines.Goals as goal

pub loop-line-init : goal.loop-line-init
loop-line-init g c = λ read h. rows_seen_start c.args.by_word c.args.fit.now read

pub loop-line-preserved : goal.loop-line-preserved
loop-line-preserved g c =
    let rules = g.S.LineSkin.rules c.args.skin.now in
    let next = next_of c.args.table.now c.loop-line.line-index c.line-item.result c.loop-line-test.true c.line-item.is in
    elim c.match-line.branch [
      | in-TableRow w ↦
          read_row_seen rules c.args.by_word c.args.fit.now c.loop-line.fit c.match-line.fit c.args.table.now (drop (c.loop-line.line-index + 1) c.args.table.now) c.loop-line.line-index c.line-item.result w.in-TableRow.row c.loop-line.invariant next w.in-TableRow.is
          (λ read h width n rows seen.
          subst (λ (f : TblFit). TableHasSeen f width (measures_in c.args.by_word n (rows ++ read ∷ []))) (sym w.fit-is)
          (w.see_cells.ensures read (subst (λ (cells : List Composite). AreCompositesRead rules (map styled_runs cells) read) (sym w.deref.ensures.value) h) width n rows seen))
      | in_default w ↦
          read_other_seen rules c.args.by_word c.args.fit.now c.match-line.fit c.args.table.now (drop (c.loop-line.line-index + 1) c.args.table.now) c.loop-line.line-index c.line-item.result
          (subst (λ (f : TblFit). ReadRowsSeen rules c.args.by_word c.args.fit.now f c.args.table.now c.loop-line.line-index) (sym w.fit-is) c.loop-line.invariant) next w.in_default.not-TableRow
    ]

pub returns : goal.returns
returns g c = λ read h. rows_seen_all c.args.by_word c.args.fit.now c.loop-line.fit read c.loop-line.line-index (c.loop-line.invariant read h)
    (read_rows_end (g.S.LineSkin.rules c.args.skin.now) c.args.table.now read c.loop-line.line-index h (drop_all c.loop-line.line-index c.args.table.now c.loop-line-test.false))
