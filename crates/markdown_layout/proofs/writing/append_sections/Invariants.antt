use Rattle.std.proofs.Common.{length, string_bytes}
use Rattle.mad_dressing.specs.Dressed.{dressed_page}
use Rattle.mad_page_skin.specs.PageSkins.{page_marks, page_row_skin}
use Rattle.markdown_reader.specs.SectionsLeft.{sections_left}
use Rattle.markdown_layout.proofs.WrittenLemmas.{WrittenSoFar}
use Rattle.markdown_layout.proofs.writing.append_sections.Given as goal

abbrev pub invariant-sections : goal.invariant-sections
invariant-sections l = WrittenSoFar (page_row_skin l.skin) l.width (dressed_page (page_marks l.skin) (sections_left l.fn.sections)) (dressed_page (page_marks l.skin) (sections_left l.rest)) (string_bytes l.fn.rows) (string_bytes l.rows)

abbrev pub decreases-sections : goal.decreases-sections
decreases-sections l = length (sections_left l.rest)
