-- Pages laid out and written.
use Rattle.std.specs.Prelude.{ℕ, Result, List, Option}
use Rattle.std.specs.List.{flat_map}
use Rattle.mad_rows.specs.RowStyles.{line_rules}
use Rattle.mad_rows.specs.declared.row_skin.RowSkin.{RowSkin}
use Rattle.mad_sections.specs.Sections.{SectionContent}
use Rattle.mad_pages.specs.PageLayouts.{IsPageAt}
use Rattle.mad_pages.specs.PageRows.{RowContent}
use Rattle.mad_page_rows.specs.Faces.{has_ascii_boxes, page_row_bytes}
use Rattle.mad_dressing.specs.Dressed.{dressed_page}
use Rattle.mad_page_skin.specs.PageSkins.{page_marks, page_row_skin}
use Rattle.mad_page_skin.specs.declared.page_skin.PageSkin.{PageSkin}
use Rattle.markdown_layout.specs.RowEnds.{ended}
use Rattle.mad_term.specs.Draws.{DrawsSome}
use Rattle.mad_term.specs.Trace.{Trace}
use Rattle.mad_term.specs.declared.errors.Error.{Error}

-- a row of a page without the blanks at its end, which no style shows, and a newline
abbrev pub row_bytes : RowSkin → Option ℕ → RowContent → List ℕ
row_bytes skin width row = ended (page_row_bytes skin width row)

-- rows of a page, one after another
abbrev pub rows_bytes : RowSkin → Option ℕ → List RowContent → List ℕ
rows_bytes skin width rows = flat_map (row_bytes skin width) rows

-- What a call does that writes these sections: it draws the rows of a page of them; or memory for the rows was refused, and nothing went out.
abbrev pub WritesPage : {T : Type 0} → RowSkin → Option ℕ → List SectionContent → Trace → Result T Error → Trace → Type 0
WritesPage skin width page old r new = DrawsSome (IsPageAt (line_rules skin) (has_ascii_boxes skin) width page) (rows_bytes skin width) old r new

-- the rows are those of a page of a text in its skin: of these sections, with what stands in such a page and isn't their own
abbrev pub IsDressedAt : PageSkin → Option ℕ → List SectionContent → List RowContent → Type 0
IsDressedAt skin width page rows = IsPageAt (line_rules (page_row_skin skin)) (has_ascii_boxes (page_row_skin skin)) width (dressed_page (page_marks skin) page) rows

-- the bytes of these rows
abbrev pub dressed_bytes : PageSkin → Option ℕ → List RowContent → List ℕ
dressed_bytes skin width rows = rows_bytes (page_row_skin skin) width rows

-- What a call does that writes a text which says these sections: it draws the rows of a page of them, with the rules and signs of headings; or memory for the rows was
-- refused, and nothing went out.
abbrev pub WritesDressed : {T : Type 0} → PageSkin → Option ℕ → List SectionContent → Trace → Result T Error → Trace → Type 0
WritesDressed skin width page old r new = DrawsSome (IsDressedAt skin width page) (dressed_bytes skin width) old r new
