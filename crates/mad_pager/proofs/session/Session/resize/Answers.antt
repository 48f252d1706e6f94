use Rattle.std.proofs.Common.{ℕ, List, ap, length, refl, ◌∙◌}
use Rattle.mad_page.specs.declared.page.Page.{Page}
use Rattle.mad_pager.specs.Sessions.{kept_row}
use Rattle.mad_pager.proofs.StepLemmas.{moved}
use Rattle.mad_pager.proofs.session.Session.resize.Goals as goal

pub returns-clause-step : goal.returns-clause-step
returns-clause-step c =
    let old = c.args.self.now in
    record {
      laid = c.in_ok-laid.ensures;
      page =
          ap (λ (n : ℕ). let p : Page = record old.page { columns = c.args.columns; rows = c.args.rows; height = n; top = c.row_kept-top.result } in p) c.height_of.ensures
          ∙ ap (λ (n : ℕ). let p : Page = record old.page { columns = c.args.columns; rows = c.args.rows; height = length c.in_ok-laid.laid.lines.items; top = n } in p)
          (c.row_kept-top.ensures ∙ ap (λ (l : List ℕ). kept_row old.page.columns c.args.columns old.laid.starts.items l old.page.top) c.as_slice.ensures.value);
      field = moved _ _ _ _ c.field_row.ensures c.set_area.ensures.same c.set_area.ensures.changed;
      is_typing = refl;
      types_back = refl;
      sought = refl;
      reading = refl;
      is_backward = refl;
      past = refl;
      back = refl;
      found = refl;
      is_missing = refl;
      told = refl;
    }
