use Rattle.std.proofs.Common.{length, string_bytes}
use Rattle.mad_dressing.specs.Dressed.{dressed_page}
use Rattle.mad_page_skin.specs.PageSkins.{page_marks, page_row_skin}
use Rattle.markdown_reader.specs.MarkdownSays.{links_said, markdown_says}
use Rattle.markdown_reader.specs.SectionsLeft.{sections_left}
use Rattle.markdown_reader.specs.NumbersIn.{link_marks_said}
use Rattle.markdown_linked_pages.specs.LinkedPages.{linked_from, linked_row_bytes}
use Rattle.markdown_linked_pages.proofs.LinkMarkLemmas.{ArePassed}
use Rattle.markdown_linked_pages.proofs.WrittenLemmas.{WrittenSoFar}
use Rattle.markdown_linked_pages.proofs.linked_writing.append_linked_text.Given as goal

abbrev pub invariant-sections : goal.invariant-sections
invariant-sections l = record {
  passed : ArePassed (links_said l.read) l.number l.passed;
  so_far : WrittenSoFar (linked_row_bytes l.addresses (page_row_skin l.skin) l.text.width) (page_row_skin l.skin) l.text.width (dressed_page (page_marks l.skin) (linked_from (links_said l.read) (link_marks_said l.read) 0 (markdown_says l.read)))
      (dressed_page (page_marks l.skin) (linked_from (links_said l.read) (link_marks_said l.read) l.number (sections_left l.rest))) (string_bytes l.fn.rows) (string_bytes l.rows);
}

abbrev pub decreases-sections : goal.decreases-sections
decreases-sections l = length (sections_left l.rest)
