use Rattle.std.proofs.Common.{◌∙◌, ◌+◌, ◌∷◌, List, ap, drop, sym}
use Rattle.mad_list_columns.specs.declared.columns.ListViewColumn.{ListViewColumn}
use Rattle.mad_list_columns.specs.Drawing.{title_over, titles}
use Rattle.mad_list_columns.proofs.TitleLemmas.{first_and_others, split_titles}
use Rattle.mad_list_columns.proofs.shared_titles.split_title.Goals as goal

pub returns-clause-titles : goal.returns-clause-titles
returns-clause-titles g c =
    let columns = c.args.columns.now in
    let first = c.index-columns-0.result in
    let n = c.count_alike-others.result in
    split_titles columns first _ n (first_and_others columns first c.requires c.index-columns-0.is) c.count_alike-others.ensures.alike c.count_alike-others.ensures.next
    ∙ ap (λ (front : List (ListViewColumn g.row.E.Denot)). title_over front ∷ titles (drop (1 + n) columns)) (sym c.split_at.ensures.front)
    ∙ ap (λ (back : List (ListViewColumn g.row.E.Denot)). title_over c.split_at.result.0.now ∷ titles back) (sym c.split_at.ensures.back)
