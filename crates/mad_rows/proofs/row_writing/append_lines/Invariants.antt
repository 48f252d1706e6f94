use Rattle.std.proofs.Common.{◌≡◌, ◌++◌, string_bytes, take}
use Rattle.mad_rows.specs.Rows.{text_bytes}
use Rattle.mad_rows.proofs.row_writing.append_lines.Given as goal

abbrev pub invariant-loop-line : goal.invariant-loop-line
invariant-loop-line l = string_bytes l.rows ≡ string_bytes l.fn.rows ++ text_bytes l.skin l.width (take l.line-index l.lines)
