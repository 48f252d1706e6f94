use Rattle.std.proofs.Common.{option_map, ap, subst, sym, ◌∙◌}
use Rattle.termimad_page_run.proofs.RunLemmas.{opened_along, sheet_broken, sheet_left, unled}
use Rattle.termimad_page_run.proofs.StretchLemmas.{err_exit}
use Rattle.mad_pager.proofs.PagerOrder.{begun_order, named_view_order, opened_order}
use Rattle.mad_pager.specs.Pagers.{begun_at_name, view_of, IsOrderlyView}
use Rattle.termimad_page_run.proofs.program.page.Goals as goal

pub turn_pages-requires : goal.turn_pages-requires
turn_pages-requires g c =
    let begun = subst IsOrderlyView (sym c.begin_at.ensures) (begun_order _ _ (opened_order _ _ _ _ _ _ _ c.in_ok-pager.ensures)) in
    subst IsOrderlyView (sym c.in_ok-begin_at_name.ensures) (named_view_order (option_map (λ name. name.now) c.args.sheet.now.target) _ begun)

pub returns-in_err-end : goal.returns-in_err-end
returns-in_err-end g c =
    err_exit _ _ _ _ c.from_residual-in_err-end.ensures.1
    (sheet_broken c.args.sheet.now _ _ _ _ _ _ _ (opened_along c.args.sheet.now _ _ _ c.requires.name c.requires.text c.in_ok-pager.ensures)
    (c.in_ok-begin_at_name.ensures ∙ ap (begun_at_name (option_map (λ name. name.now) c.args.sheet.now.target)) c.begin_at.ensures) c.in_err-end.ensures)

pub returns-in_err-left : goal.returns-in_err-left
returns-in_err-left g c =
    err_exit _ _ _ _ c.from_residual-in_err-left.ensures.1
    (sheet_broken c.args.sheet.now _ _ _ _ _ _ _ (opened_along c.args.sheet.now _ _ _ c.requires.name c.requires.text c.in_ok-pager.ensures)
    (c.in_ok-begin_at_name.ensures ∙ ap (begun_at_name (option_map (λ name. name.now) c.args.sheet.now.target)) c.begin_at.ensures) (unled _ _ _ _ _ _ c.in_ok-end.ensures c.in_err-left.ensures.refused))

pub returns : goal.returns
returns g c =
    sheet_left c.args.sheet.now _ _ c.in_ok-end.end c.in_ok-left.left _ _ _ _ _ (opened_along c.args.sheet.now _ _ _ c.requires.name c.requires.text c.in_ok-pager.ensures)
    (c.in_ok-begin_at_name.ensures ∙ ap (begun_at_name (option_map (λ name. name.now) c.args.sheet.now.target)) c.begin_at.ensures) c.in_ok-end.ensures c.in_ok-left.ensures.end c.requires.text
    c.in_ok-left.ensures.address
