use Rattle.std.proofs.Common.{◌≡◌, ◌++◌, ℕ, List, OnOk, string_bytes, subst, sym, ◌∙◌}
use Rattle.mad_pages.specs.PageRows.{row_content}
use Rattle.markdown_layout.proofs.LookLemmas.{open_row}
use Rattle.markdown_layout.proofs.page_writing.append_whole_row.Goals as goal

pub returns-else-looks_otherwise : goal.returns-else-looks_otherwise
returns-else-looks_otherwise c =
    let e = open_row c.args.skin.now c.args.width (row_content c.args.row.now) (sym c.looks_otherwise.ensures ∙ c.if-looks_otherwise.false) in
    subst (λ (b : List ℕ). OnOk c.append_open_row.result (string_bytes c.append_open_row.new.rows ≡ string_bytes c.args.rows.now ++ b)) (sym e) c.append_open_row.ensures
