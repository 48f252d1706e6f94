-- A skin changes no character of a text, nor their order.
use Rattle.std.proofs.Common.{ℕ, Bool, List, [], ◌∷◌, sym, subst}
use Rattle.mad_md.specs.Lines.{LineContent}
use Rattle.mad_format.specs.LineRules.{LineRules}
use Rattle.mad_format.specs.Lists.{EachBecomes}
use Rattle.mad_format.specs.declared.line.FmtLine.{FmtLine}
use Rattle.mad_rows.specs.RowStyles.{line_rules}
use Rattle.mad_pages.specs.PageRows.{RowContent}
use Rattle.mad_page_rows.specs.Faces.{has_ascii_boxes}
use Rattle.mad_style.specs.StyledChars.{char_alone}
use Rattle.mad_dressing.specs.Dressed.{dressed_page, filled}
use Rattle.mad_dressing.specs.declared.page_marks.PageMarks.{PageMarks}
use Rattle.mad_page_skin.specs.PageSkins.{page_marks, page_row_skin}
use Rattle.markdown_reader.specs.Markdown.{markdown_sections}
use Rattle.markdown_page_laws.specs.KeptMarkdown.{IsShownBy}
use Rattle.markdown_page_laws.specs.KeptPages.{lines_of_rows}
use Rattle.markdown_page_laws.specs.SkinTexts.{lines_shown, lines_at, lines_in, TextIsTold, ShowAlike, SkinsKeepText}
use Rattle.markdown_page_laws.proofs.BecomeLemmas.{parts_become}
use Rattle.markdown_page_laws.proofs.DressedLemmas.{dressed_tells, source_shows}
use Rattle.markdown_page_laws.proofs.PageLemmas.{pages_keep}
use Rattle.mad_sections.specs.Sections.{SectionContent}

-- the rows of a text show the lines that are shown of it
pub text_is_told : TextIsTold
text_is_told skin source width rows wide bound laid =
    let rules : LineRules = line_rules (page_row_skin skin) in
    let ascii : Bool = has_ascii_boxes (page_row_skin skin) in
    let marks : PageMarks = page_marks skin in
    parts_become IsShownBy (λ (s : SectionContent). lines_shown skin.cell_blanks ascii width (filled marks s)) (λ (row : RowContent). row.line) (markdown_sections source) rows
    (source_shows marks source rules ascii width (λ (s : SectionContent) (own : List RowContent). EachBecomes IsShownBy (lines_shown skin.cell_blanks ascii width (filled marks s)) (lines_of_rows own))
    (dressed_tells rules ascii width marks) rows (pages_keep rules ascii width (dressed_page marks (markdown_sections source)) rows wide bound laid))

-- two that show the same lines
both_alike : (lines : List LineContent) (rows others : List FmtLine) → EachBecomes IsShownBy lines rows → EachBecomes IsShownBy lines others → ShowAlike lines rows others
both_alike [] rows others h k = (h, k)
both_alike (line ∷ lines) rows others (own, more, joins, here, there) (like, likes, alike, one, rest) = (own, more, joins, like, likes, alike, here, one, both_alike lines more likes there rest)

-- the rows of a text in two skins show the same
pub skins_keep_text : SkinsKeepText
skins_keep_text skin other source width rows others wide bound same words cells sign laid more =
    let ascii : Bool = has_ascii_boxes (page_row_skin skin) in
    let page : List SectionContent = markdown_sections source in
    both_alike (lines_in skin width page) (lines_of_rows rows) (lines_of_rows others) (text_is_told skin source width rows wide bound laid)
    (subst (λ (marks : Bool). EachBecomes IsShownBy (lines_at marks (char_alone skin.sign) skin.cell_blanks ascii width page) (lines_of_rows others)) (sym words)
    (subst (λ (c : ℕ). EachBecomes IsShownBy (lines_at other.headings.words c skin.cell_blanks ascii width page) (lines_of_rows others)) (sym sign)
    (subst (λ (blanks : Bool). EachBecomes IsShownBy (lines_at other.headings.words (char_alone other.sign) blanks ascii width page) (lines_of_rows others)) (sym cells)
    (subst (λ (boxes : Bool). EachBecomes IsShownBy (lines_at other.headings.words (char_alone other.sign) other.cell_blanks boxes width page) (lines_of_rows others)) (sym same) (text_is_told other source width others wide bound more)))))
