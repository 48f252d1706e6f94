use Rattle.std.proofs.Common.{ℕ, true, Some, ◌-◌, subst}
use Rattle.mad_draw.specs.Pieces.{AreKnown}
use Rattle.mad_pages.specs.Fronts.{front_content}
use Rattle.mad_rows.specs.Rows.{line_pieces}
use Rattle.mad_rows.specs.declared.row_skin.RowSkin.{RowSkin}
use Rattle.mad_sections.specs.Gutters.{columns_of}
use Rattle.mad_page_rows.specs.Faces.{has_ascii_boxes}
use Rattle.mad_page_rows.proofs.TonedLemmas.{behind_known}
use Rattle.mad_page_rows.proofs.area_rows.know_behind.Goals as goal

pub returns : goal.returns
returns c =
    let skin : RowSkin = c.args.skin.now in
    let front = front_content c.args.front in
    let line = c.args.line.now in
    let rest : ℕ = c.args.width - columns_of (has_ascii_boxes skin) front.gutters in
    behind_known skin front line c.args.width c.know_styles.ensures
    (subst (λ (s : RowSkin). AreKnown (line_pieces s (Some rest) true line)) c.line_skin.ensures (subst (λ (n : ℕ). AreKnown (line_pieces c.line_skin.result (Some n) true line)) c.columns_left-rest.ensures c.know_row.ensures))
