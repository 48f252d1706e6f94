use Rattle.mad_field_rows.specs.LineRows.{chars_left}
use Rattle.mad_field_rows.proofs.MarkedLemmas.{FoundSoFar}
use Rattle.mad_field_rows.proofs.row_pieces.last_marked.Given as goal

abbrev pub invariant-loop-c : goal.invariant-loop-c
invariant-loop-c l = FoundSoFar (chars_left l.fn.row) l.fn.column (chars_left l.c-iterator) l.column l.found
