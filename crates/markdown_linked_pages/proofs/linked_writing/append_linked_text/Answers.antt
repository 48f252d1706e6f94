use Rattle.std.proofs.Common.{◌≡◌, ◌+◌, ◌++◌, ◌∙◌, ℕ, List, ap, drop, refl, string_bytes, subst, sym}
use Rattle.std.proofs.lemmas.List.{drop-map}
use Rattle.mad_dressing.specs.Dressed.{dressed, dressed_page}
use Rattle.mad_dressing.specs.declared.page_marks.PageMarks.{PageMarks}
use Rattle.mad_page_rows.specs.Faces.{has_ascii_boxes}
use Rattle.mad_page_skin.specs.PageSkins.{page_marks, page_row_skin}
use Rattle.mad_pages.specs.PageRows.{RowContent}
use Rattle.mad_rows.specs.RowStyles.{line_rules}
use Rattle.mad_rows.specs.declared.row_skin.RowSkin.{RowSkin}
use Rattle.mad_sections.specs.Sections.{SectionContent, section_content}
use Rattle.markdown_reader.specs.MarkdownSays.{links_said, markdown_says}
use Rattle.markdown_reader.specs.Mapping.{LinkSaid}
use Rattle.markdown_reader.specs.SectionsSaid.{link_said}
use Rattle.markdown_reader.specs.SectionsLeft.{sections_left}
use Rattle.markdown_reader.specs.NumbersIn.{link_marks_said}
use Rattle.markdown_linked_pages.specs.LinkedPages.{IsLinkedPageAt, linked_from, links_before, linked_row_bytes, linked_rows_bytes, numbered, with_link_marks}
use Rattle.markdown_linked_pages.proofs.LinkMarkLemmas.{ArePassed, linked_step, none_passed, passed_here, passed_on}
use Rattle.markdown_linked_pages.proofs.WrittenLemmas.{WrittenSoFar, dressed_on, first_left, none_left, shorter_left, written_none, written_whole}
use Rattle.markdown_linked_pages.proofs.linked_writing.append_linked_text.Goals as goal

pub sections-init : goal.sections-init
sections-init c =
    let skin : RowSkin = page_row_skin c.args.skin.now in
    let links = links_said c.args.read.now in
    let marks = link_marks_said c.args.read.now in
    let all = linked_from links marks 0 (markdown_says c.args.read.now) in
    let f = linked_row_bytes c.args.addresses.now skin c.args.width in
    let rows = string_bytes c.args.rows.now in
    record {
      passed = none_passed links;
      so_far = subst (λ (ss : List SectionContent). WrittenSoFar f skin c.args.width (dressed_page (page_marks c.args.skin.now) all) (dressed_page (page_marks c.args.skin.now) (linked_from links marks 0 ss)) rows rows) (sym c.sections-rest.ensures) (written_none f skin c.args.width (dressed_page (page_marks c.args.skin.now) all) rows);
    }

pub sections-preserved : goal.sections-preserved
sections-preserved c =
    let skin : RowSkin = page_row_skin c.args.skin.now in
    let headings = page_marks c.args.skin.now in
    let links = links_said c.args.read.now in
    let marks = link_marks_said c.args.read.now in
    let n = c.sections.number in
    let left = sections_left c.sections.rest in
    let after = sections_left c.next.new.self in
    let got = rw c.in-Some.is at c.in_ok-section.ensures.section in
    let s = section_content c.in-Some.section in
    let before = string_bytes c.sections.rows in
    let now = string_bytes c.append_marked_section.new.rows in
    let f = linked_row_bytes c.args.addresses.now skin c.args.width in
    let all = linked_from links marks 0 (markdown_says c.args.read.now) in
    let made = c.as_slice-in-Some.result.now in
    let made_is = c.as_slice-in-Some.ensures.value ∙ c.in_ok-marks.ensures ∙ ap (numbered c.links_before-passed.result) c.as_slice.ensures.value in
    let shown : SectionContent = with_link_marks made s in
    let passed = c.sections.invariant.passed in
    let counted : c.links_before-passed.result ≡ c.sections.passed + links_before n (drop c.sections.passed links) =
    c.links_before-passed.ensures ∙ ap (λ (ls : List LinkSaid). c.sections.passed + links_before n ls) (sym (drop-map link_said c.sections.passed c.links-links.result.now) ∙ ap (drop c.sections.passed) c.links-links.ensures) in
    let here = passed_here links n c.sections.passed c.links_before-passed.result passed counted in
    let joins = linked_step links marks n c.links_before-passed.result c.in_ok-found.found.items made left after s shown (first_left left after s got c.in_ok-section.ensures.rest) c.in_ok-found.ensures.marks made_is here refl in
    let laid =
    subst (λ (k : RowSkin). (own : List RowContent) × IsLinkedPageAt (line_rules k) (has_ascii_boxes k) c.args.width (dressed c.marks.result shown) own × (now ≡ before ++ linked_rows_bytes c.args.addresses.now k c.args.width own)) c.row_skin-row_skin.ensures c.in_ok-append_marked_section.ensures in
    let done =
    subst (λ (m : PageMarks). (own : List RowContent) × IsLinkedPageAt (line_rules skin) (has_ascii_boxes skin) c.args.width (dressed m shown) own × (now ≡ before ++ linked_rows_bytes c.args.addresses.now skin c.args.width own)) c.marks.ensures laid in
    record {
      passed = subst (λ (k : ℕ). ArePassed links k c.links_before-passed.result) (sym c.in_ok-number.ensures) (passed_on links n c.sections.passed c.links_before-passed.result passed counted);
      so_far = subst (λ (k : ℕ). WrittenSoFar f skin c.args.width (dressed_page headings all) (dressed_page headings (linked_from links marks k after)) (string_bytes c.args.rows.now) now) (sym c.in_ok-number.ensures)
          (dressed_on f skin headings c.args.width all (linked_from links marks n left) (linked_from links marks (n + 1) after) shown (string_bytes c.args.rows.now) before now done.0 c.sections.invariant.so_far joins done.1 done.2);
    }

pub sections-smaller : goal.sections-smaller
sections-smaller c =
    let left = sections_left c.sections.rest in
    let after = sections_left c.next.new.self in
    let got = rw c.in-Some.is at c.in_ok-section.ensures.section in
    shorter_left left after (section_content c.in-Some.section) (first_left left after (section_content c.in-Some.section) got c.in_ok-section.ensures.rest)

pub returns : goal.returns
returns c =
    let skin : RowSkin = page_row_skin c.args.skin.now in
    let headings = page_marks c.args.skin.now in
    let links = links_said c.args.read.now in
    let marks = link_marks_said c.args.read.now in
    let left = sections_left c.sections.rest in
    let got = rw c.in_default.is at c.in_ok-section.ensures.section in
    written_whole (linked_row_bytes c.args.addresses.now skin c.args.width) skin c.args.width (dressed_page headings (linked_from links marks 0 (markdown_says c.args.read.now))) (dressed_page headings (linked_from links marks c.sections.number left)) (string_bytes c.args.rows.now) (string_bytes c.sections.rows)
    c.sections.invariant.so_far (ap (λ (ss : List SectionContent). dressed_page headings (linked_from links marks c.sections.number ss)) (none_left left got))
