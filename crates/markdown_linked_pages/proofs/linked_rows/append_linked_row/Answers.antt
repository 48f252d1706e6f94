use Rattle.std.specs.Prelude.{string_bytes}
use Rattle.mad_pages.specs.PageRows.{row_content}
use Rattle.mad_page_rows.specs.Faces.{backs, faces}
use Rattle.markdown_linked_pages.specs.LinkedPageRows.{linked_behind}
use Rattle.markdown_linked_pages.proofs.LinkedLemmas.{row_begun}
use Rattle.markdown_linked_pages.proofs.linked_rows.append_linked_row.Goals as goal

pub returns-clause-writes : goal.returns-clause-writes
returns-clause-writes c =
    let row = row_content c.args.row.now in
    let skin = c.args.skin.skin.now in
    (row_begun c.args.skin.addresses.now (faces skin row.gutters row.fresh) (backs skin row.gutters) (linked_behind skin c.args.outer c.args.filled row) (string_bytes c.args.rows.now) (string_bytes c.append_faces.new.rows) (string_bytes c.append_backs.new.rows)
    (string_bytes c.append_linked_line.new.rows, c.in_ok-link.link) c.in_ok-open.open c.in_ok-append_faces.ensures c.in_ok-link.ensures c.in_ok-open.ensures).0

pub returns-clause-opens : goal.returns-clause-opens
returns-clause-opens c =
    let row = row_content c.args.row.now in
    let skin = c.args.skin.skin.now in
    (row_begun c.args.skin.addresses.now (faces skin row.gutters row.fresh) (backs skin row.gutters) (linked_behind skin c.args.outer c.args.filled row) (string_bytes c.args.rows.now) (string_bytes c.append_faces.new.rows) (string_bytes c.append_backs.new.rows)
    (string_bytes c.append_linked_line.new.rows, c.in_ok-link.link) c.in_ok-open.open c.in_ok-append_faces.ensures c.in_ok-link.ensures c.in_ok-open.ensures).1
