use Rattle.std.proofs.Common.{◌++◌, Ok, string_bytes, take}
use Rattle.mad_rows.specs.Rows.{text_bytes}
use Rattle.mad_layout.specs.WrittenParts.{HandsOn}
use Rattle.mad_layout.proofs.parts_writing.send_lines.Given as goal

abbrev pub invariant-loop-line : goal.invariant-loop-line
invariant-loop-line g l = HandsOn {T = Unit {0}} (g.O.Out.seen l.fn.out) (string_bytes l.fn.rows ++ text_bytes l.skin l.width (take l.line-index l.lines)) (Ok (tt {0})) (g.O.Out.seen l.out) (string_bytes l.rows)
