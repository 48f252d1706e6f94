use Rattle.std.proofs.Common.{length, string_bytes}
use Rattle.markdown_live.proofs.PageRowLemmas.{RowsSoFar}
use Rattle.markdown_live.proofs.page_rows.page_rows.Given as goal

abbrev pub invariant-loop-rest : goal.invariant-loop-rest
invariant-loop-rest l = RowsSoFar l.fn.skin l.fn.width l.fn.reads l.rest (string_bytes l.rows)

abbrev pub decreases-loop-rest : goal.decreases-loop-rest
decreases-loop-rest l = length l.rest
