use Rattle.std.proofs.Common.{◌≡◌, ◌≤◌, List, OnOk, ap, ◌∙◌, subst}
use Rattle.mad_dressing.specs.Dressed.{dressed_page}
use Rattle.mad_dressing.specs.declared.page_marks.PageMarks.{PageMarks}
use Rattle.mad_page_skin.specs.PageSkins.{page_marks}
use Rattle.mad_draw.specs.Pieces.{IsColumnChar}
use Rattle.mad_rows.specs.declared.row_skin.RowSkin.{RowSkin}
use Rattle.mad_sections.specs.Sections.{SectionContent, page_content}
use Rattle.markdown_reader.specs.Markdown.{markdown_sections}
use Rattle.markdown_reader.specs.MarkdownSays.{markdown_says}
use Rattle.markdown_layout.specs.DrawnMarkdown.{DrawsPage, ShowsMarkdown}
use Rattle.markdown_layout.proofs.DrawnLemmas.{shown_read}
use Rattle.markdown_layout.proofs.drawing.draw_markdown.Goals as goal

pub returns-clause-writes : goal.returns-clause-writes
returns-clause-writes g c =
    let marks = page_marks c.args.skin.now in
    let old = g.O.Out.seen c.args.out.now in
    let new = g.O.Out.seen c.draw_page.new.out in
    let page : page_content c.in_ok-page.page ≡ dressed_page marks (markdown_sections c.args.markdown.now) =
    c.in_ok-page.ensures ∙ c.in_ok-dressed.ensures ∙ ap (λ (m : PageMarks). dressed_page m (markdown_says c.in_ok-read.read)) c.marks.ensures ∙ ap (dressed_page marks) c.in_ok-read.ensures.sections in
    subst (λ (skin : RowSkin). DrawsPage skin (dressed_page marks (markdown_sections c.args.markdown.now)) c.args.area.now old c.draw_page.result new) c.row_skin.ensures
    (subst (λ (ss : List SectionContent). DrawsPage c.row_skin.result ss c.args.area.now old c.draw_page.result new) page c.draw_page.ensures.writes)

pub returns-clause-shown : goal.returns-clause-shown
returns-clause-shown g c =
    let marks = page_marks c.args.skin.now in
    let read = c.in_ok-read.ensures in
    let source = dressed_page marks (markdown_sections c.args.markdown.now) in
    let said = dressed_page marks (markdown_says c.in_ok-read.read) in
    let area = c.args.area.now in
    let old = g.O.Out.seen c.args.out.now in
    let new = g.O.Out.seen c.draw_page.new.out in
    subst (λ (skin : RowSkin). OnOk c.draw_page.result (3 ≤ area.width → IsColumnChar marks.sign → ShowsMarkdown skin source area old new)) c.row_skin.ensures
    (shown_read c.draw_page.result c.row_skin.result marks.sign source said (page_content c.in_ok-page.page) area old new (ap (dressed_page marks) read.sections)
    (c.in_ok-page.ensures ∙ c.in_ok-dressed.ensures ∙ ap (λ (m : PageMarks). dressed_page m (markdown_says c.in_ok-read.read)) c.marks.ensures) (read.premises marks) c.typed_page.ensures c.draw_page.ensures.shown)
