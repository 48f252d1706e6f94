-- What goes out of Markdown shows its sections.
use Rattle.std.proofs.Common.{ℕ, ◌-◌, ◌^◌, ◌<◌, ◌≤◌, inl, inr, List, Some, map}
use Rattle.mad_rows.specs.RowStyles.{line_rules}
use Rattle.mad_page_rows.specs.Faces.{has_ascii_boxes}
use Rattle.mad_pages.specs.PageRows.{RowContent, row_content}
use Rattle.mad_dressing.specs.Dressed.{dressed_page}
use Rattle.mad_page_skin.specs.PageSkins.{page_marks, page_row_skin}
use Rattle.mad_page_skin.specs.declared.page_skin.PageSkin.{PageSkin}
use Rattle.markdown_layout.specs.WrittenPages.{IsDressedAt}
use Rattle.markdown_reader.specs.Markdown.{markdown_sections}
use Rattle.markdown_page_laws.specs.KeptOutput.{KeepSource, WritingShows, DrawingShows, AreasShow}
use Rattle.markdown_page_laws.proofs.DressedLemmas.{markdown_is_kept}
use Rattle.markdown_page_laws.proofs.PageLemmas.{pages_keep}

-- the rows of a text in its skin keep it
keeps_source : (skin : PageSkin) (source : List ℕ) (width : ℕ) (rows : List RowContent) → 3 ≤ width → width < 2 ^ 64 - 1 → IsDressedAt skin (Some width) (markdown_sections source) rows → KeepSource skin width source rows
keeps_source skin source width rows wide bound laid = record {
  shown = markdown_is_kept (page_marks skin) source (line_rules (page_row_skin skin)) (has_ascii_boxes (page_row_skin skin)) width rows wide bound laid;
  least = pages_keep (line_rules (page_row_skin skin)) (has_ascii_boxes (page_row_skin skin)) width (dressed_page (page_marks skin) (markdown_sections source)) rows wide bound laid;
}

-- what is written shows the text
pub writing_shows : WritingShows
writing_shows skin source width old new r wide bound (inl (rows, are, draws)) = inl (rows, keeps_source skin source width rows wide bound are, draws)
writing_shows skin source width old new r wide bound (inr refused) = inr refused

-- so does what is drawn
pub drawing_shows : DrawingShows
drawing_shows skin source area old new r wide bound (inl (rows, are, draws)) = inl (rows, keeps_source skin source area.width (map row_content rows) wide bound are, draws)
drawing_shows skin source area old new r wide bound (inr refused) = inr refused

-- and what a terminal shows of it
pub areas_show : AreasShow
areas_show skin source area old new wide bound (rows, are, shown) = (rows, keeps_source skin source area.width (map row_content rows) wide bound are, shown)
