use Rattle.std.proofs.Common.{ℕ, Bool, List, Some, OnOk, inl, map, subst, arith}
use Rattle.mad_term.specs.Draws.{Draws}
use Rattle.mad_term.specs.Trace.{TookWith}
use Rattle.mad_draw.specs.DrawnRows.{rows_bytes, AreRowsShown, FillArea}
use Rattle.mad_rows.specs.RowStyles.{line_rules}
use Rattle.mad_sections.specs.Sections.{page_content}
use Rattle.mad_pages.specs.PageLayouts.{IsPageAt}
use Rattle.mad_pages.specs.PageRows.{row_content}
use Rattle.mad_pages.specs.declared.page_rows.PageRow.{PageRow}
use Rattle.mad_page_rows.specs.Faces.{has_ascii_boxes}
use Rattle.markdown_layout.specs.DrawnMarkdown.{placed_rows, ArePageOf}
use Rattle.markdown_layout.proofs.DrawnLemmas.{shown_kept}
use Rattle.markdown_layout.proofs.drawing.draw_page.Goals as goal

pub returns : goal.returns
returns g c =
    let skin = c.args.skin.now in
    let area = c.args.area.now in
    let page = page_content c.args.page in
    let rows : List PageRow = c.in_ok-rows.rows.items in
    let width = c.from-width.ensures in
    let laid : ArePageOf skin area page rows =
    subst (λ (w : ℕ). IsPageAt (line_rules skin) (has_ascii_boxes skin) (Some w) page (map row_content rows)) width
    (subst (λ (b : Bool). IsPageAt (line_rules skin) b (Some c.from-width.result) page (map row_content rows)) c.has_ascii_boxes.ensures c.in_ok-rows.ensures) in
    record {
      writes = inl (
        rows,
        laid,
        subst (λ (w : ℕ). Draws (g.O.Out.seen c.args.out.now) (rows_bytes (placed_rows skin w rows) area) c.draw_rows.result (g.O.Out.seen c.draw_rows.new.out)) width
            (subst (λ (rs : List PageRow). Draws (g.O.Out.seen c.args.out.now) (rows_bytes (placed_rows skin c.from-width.result rs) area) c.draw_rows.result (g.O.Out.seen c.draw_rows.new.out)) c.as_slice.ensures.value c.draw_rows.ensures.writes),
      );
      shown = shown_kept c.draw_rows.result skin page area rows (g.O.Out.seen c.args.out.now) (g.O.Out.seen c.draw_rows.new.out) (omega (arith, c.requires.columns)) laid
          (subst (λ (w : ℕ). OnOk c.draw_rows.result (FillArea (placed_rows skin w rows) area → TookWith (g.O.Out.seen c.args.out.now) (g.O.Out.seen c.draw_rows.new.out) (AreRowsShown (placed_rows skin w rows) area))) width
          (subst (λ (rs : List PageRow). OnOk c.draw_rows.result (FillArea (placed_rows skin c.from-width.result rs) area → TookWith (g.O.Out.seen c.args.out.now) (g.O.Out.seen c.draw_rows.new.out) (AreRowsShown (placed_rows skin c.from-width.result rs) area)))
          c.as_slice.ensures.value c.draw_rows.ensures.shown));
    }
