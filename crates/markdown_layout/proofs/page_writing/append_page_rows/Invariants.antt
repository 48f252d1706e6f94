use Rattle.std.proofs.Common.{◌≡◌, ◌++◌, length, map, string_bytes}
use Rattle.mad_pages.specs.PageRows.{row_content}
use Rattle.markdown_layout.specs.WrittenPages.{rows_bytes}
use Rattle.markdown_layout.proofs.page_writing.append_page_rows.Given as goal

abbrev pub invariant-loop-rest : goal.invariant-loop-rest
invariant-loop-rest l = string_bytes l.rows ++ rows_bytes l.skin l.width (map row_content l.rest) ≡ string_bytes l.fn.rows ++ rows_bytes l.skin l.width (map row_content l.page_rows)

abbrev pub decreases-loop-rest : goal.decreases-loop-rest
decreases-loop-rest l = length l.rest
