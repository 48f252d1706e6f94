use Rattle.std.proofs.Common.{string_bytes, take, drop, length}
use Rattle.markdown_layout.proofs.EndLemmas.{IsLeft}
use Rattle.markdown_linked_pages.proofs.row_ends.take_ends.Given as goal

abbrev pub invariant-ends : goal.invariant-ends
invariant-ends l = IsLeft (take l.start (string_bytes l.fn.rows)) (drop l.start (string_bytes l.fn.rows)) (string_bytes l.rows)

abbrev pub decreases-ends : goal.decreases-ends
decreases-ends l = length (string_bytes l.rows)
