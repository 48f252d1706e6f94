use Rattle.std.proofs.Common.{◌+◌, ◌-◌, ◌∙◌, ap, sym, chars}
use Rattle.std.specs.Prelude.{min}
use Rattle.std.specs.Cow.{cow_str_bytes}
use Rattle.mad_plain.specs.Pens.{plain_pen}
use Rattle.mad_plain.specs.Rows.{columns_of}
use Rattle.mad_plain.specs.Shown.{shown_of}
use Rattle.mad_plain.proofs.RunLemmas.{said_spread}
use Rattle.mad_plain.proofs.RowLemmas.{cut_is}
use Rattle.mad_plain.proofs.rows.cut_row.Goals as goal

pub returns : goal.returns
returns c =
    let line = c.args.line.now in
    let n = c.args.moved + c.args.width + 1 in
    let total = c.columns_up_to-total.ensures ∙ ap (λ bs. min (columns_of (chars bs)) n) c.as_str.ensures.value ∙ ap (λ cs. min (columns_of cs) n) (sym (said_spread plain_pen 0 line.runs.items (chars (cow_str_bytes line.text)))) in
    c.in_ok-row.ensures.shown
    ∙ cut_is c.args.moved c.args.width c.columns_up_to-total.result (shown_of line) _ _ _ _ c.goes_left-left.result c.goes_right-right.result _ _ total c.goes_left-left.ensures c.goes_right-right.ensures
    (ap (λ k. c.args.moved + k) c.one_if.ensures) (c.saturating_sub-to.ensures ∙ ap (λ k. c.args.moved + c.args.width - k) c.one_if-2.ensures)
    c.in_ok-shown.ensures c.in_ok-push_sign.ensures c.in_ok-push_window.ensures c.in_ok-push_sign-2.ensures
