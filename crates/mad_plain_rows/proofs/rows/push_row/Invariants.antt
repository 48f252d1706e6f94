use Rattle.std.proofs.Common.{◌≡◌, ◌++◌, string_bytes, length}
use Rattle.mad_plain.specs.Shown.{rest_of, shown_of}
use Rattle.mad_plain_rows.specs.PlainRows.{rest_bytes, row_bytes}
use Rattle.mad_plain_rows.proofs.rows.push_row.Given as goal

abbrev pub invariant-loop-style : goal.invariant-loop-style
invariant-loop-style l = string_bytes l.text ++ rest_bytes l.fn.is_styled l.pen (rest_of l.rest) ≡ string_bytes l.fn.text ++ row_bytes l.fn.is_styled (shown_of l.fn.row)

abbrev pub decreases-loop-style : goal.decreases-loop-style
decreases-loop-style l = length l.rest.text.now
