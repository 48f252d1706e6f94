use Rattle.std.proofs.Common.{◌≡◌, ◌-◌, length, map, arith, sym, subst, ◌∙◌}
use Rattle.std.specs.List.{AllZip}
use Rattle.std.proofs.lemmas.Result.{IfOk-weaker}
use Rattle.mad_widths.specs.SeenCells.{ColumnHasSeen, needs_in}
use Rattle.mad_widths.specs.TableFits.{IsFit, IsTableFit}
use Rattle.mad_widths.proofs.TableLemmas.{table_fit}
use Rattle.mad_widths.proofs.tbl_fit.TblFit.fit.Goals as goal

pub returns : goal.returns
returns c =
    let width = c.args.self.now.width in
    let cs = c.as_slice.result.now in
    let len : c.len.result ≡ length cs = c.len.ensures ∙ sym c.as_slice.ensures.len in
    IfOk-weaker c.fitted_widths.result _ _ (λ fitted h given cells seen.
    subst (λ w. IsTableFit w cells fitted) seen.width_is (
    table_fit width cs cells fitted (omega (arith, c.args.self.now.wide_enough, c.as_slice.ensures.len)) (subst (λ l. AllZip ColumnHasSeen l cells) (sym c.as_slice.ensures.value) seen.columns)
    (subst (λ n. IsFit (width - 1 - n) (map needs_in cs) fitted) len h))) c.fitted_widths.ensures
