use Rattle.std.proofs.Common.{ℕ, ap, ◌∙◌, refl, rules, false}
use Rattle.mad_field.specs.Fields.{new_field}
use Rattle.mad_page.specs.declared.page.Page.{Page}
use Rattle.mad_pager.proofs.session.Session.new.Goals as goal

pub returns-clause-start : goal.returns-clause-start
returns-clause-start c = record {
  laid = c.in_ok-laid.ensures;
  page = ap (λ (n : ℕ). let p : Page = record { columns = c.args.columns; rows = c.args.rows; height = n; top = 0; count = 0; holds_bar = false; has_colon = false; tells = false; files = c.args.files } in p) c.height_of.ensures;
  field = c.in_ok-field.ensures ∙ ap new_field c.field_row.ensures;
  is_typing = refl;
  types_back = refl;
  sought = search rules;
  reading = refl;
  is_backward = refl;
  past = search rules;
  back = refl;
  found = refl;
  is_missing = refl;
  told = refl;
}
