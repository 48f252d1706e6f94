use Rattle.std.proofs.Common.{◌≡◌, ◌++◌, List, string_bytes, subst}
use Rattle.mad_dressing.specs.Dressed.{dressed}
use Rattle.mad_dressing.specs.declared.page_marks.PageMarks.{PageMarks}
use Rattle.mad_page_rows.specs.Faces.{has_ascii_boxes}
use Rattle.mad_page_skin.specs.PageSkins.{page_marks, page_row_skin}
use Rattle.mad_pages.specs.PageLayouts.{IsPageAt}
use Rattle.mad_pages.specs.PageRows.{RowContent}
use Rattle.mad_rows.specs.RowStyles.{line_rules}
use Rattle.mad_rows.specs.declared.row_skin.RowSkin.{RowSkin}
use Rattle.mad_sections.specs.Sections.{section_content}
use Rattle.markdown_reader.specs.SectionsLeft.{sections_left}
use Rattle.markdown_layout.specs.WrittenPages.{rows_bytes}
use Rattle.markdown_layout.proofs.WrittenLemmas.{dressed_on, first_left, shorter_left}
use Rattle.markdown_layout.proofs.writing.append_sections.Goals as goal

pub sections-preserved : goal.sections-preserved
sections-preserved c =
    let skin : RowSkin = page_row_skin c.args.skin.now in
    let marks = page_marks c.args.skin.now in
    let left = sections_left c.sections.rest in
    let after = sections_left c.next.new.self in
    let got = rw c.in-Some.is at c.in_ok-section.ensures.section in
    let s = section_content c.in-Some.section in
    let before = string_bytes c.sections.rows in
    let now = string_bytes c.append_dressed.new.rows in
    let made =
    subst (λ (k : RowSkin). (own : List RowContent) × IsPageAt (line_rules k) (has_ascii_boxes k) c.args.width (dressed c.marks.result s) own × (now ≡ before ++ rows_bytes k c.args.width own)) c.row_skin-row_skin.ensures c.in_ok-append_dressed.ensures in
    let done =
    subst (λ (m : PageMarks). (own : List RowContent) × IsPageAt (line_rules skin) (has_ascii_boxes skin) c.args.width (dressed m s) own × (now ≡ before ++ rows_bytes skin c.args.width own)) c.marks.ensures made in
    dressed_on skin marks c.args.width (sections_left c.args.sections) left after s (string_bytes c.args.rows.now) before now done.0 c.sections.invariant (first_left left after s got c.in_ok-section.ensures.rest) done.1 done.2

pub sections-smaller : goal.sections-smaller
sections-smaller c =
    let left = sections_left c.sections.rest in
    let after = sections_left c.next.new.self in
    let got = rw c.in-Some.is at c.in_ok-section.ensures.section in
    shorter_left left after (section_content c.in-Some.section) (first_left left after (section_content c.in-Some.section) got c.in_ok-section.ensures.rest)
