use Rattle.std.proofs.Common.{◌≡◌, ◌-◌, length, map, arith, sym, subst, ◌∙◌}
use Rattle.std.specs.List.{AllZip}
use Rattle.std.proofs.lemmas.Result.{IfOk-weaker}
use Rattle.mad_widths.specs.ColumnWidths.{natural_widths}
use Rattle.mad_widths.specs.SeenCells.{ColumnHasSeen, needs_in}
use Rattle.mad_widths.specs.WordWidths.{least_widths, IsWordFit, IsTableWordFit}
use Rattle.mad_widths.proofs.TableLemmas.{table_word_fit}
use Rattle.mad_widths.proofs.tbl_fit.TblFit.fit_words.Goals as goal

pub returns : goal.returns
returns c =
    let width = c.args.self.now.width in
    let cs = c.as_slice.result.now in
    let vs = c.as_slice-2.result.now in
    let len : c.len.result ≡ length cs = c.len.ensures ∙ sym c.as_slice.ensures.len in
    IfOk-weaker c.fitted_to_words.result _ _ (λ fitted h given words_width cells words seen heard.
    subst (λ w. IsTableWordFit w cells words fitted) seen.width_is (
    table_word_fit width cs vs cells words fitted (omega (arith, c.args.self.now.wide_enough, c.as_slice.ensures.len)) (subst (λ l. AllZip ColumnHasSeen l cells) (sym c.as_slice.ensures.value) seen.columns)
    (subst (λ l. AllZip ColumnHasSeen l words) (sym c.as_slice-2.ensures.value) heard.columns)
    (subst (λ n. IsWordFit (width - 1 - n) (map needs_in cs) (least_widths (natural_widths (map needs_in cs)) (natural_widths (map needs_in vs))) fitted) len h))) c.fitted_to_words.ensures
