use Rattle.std.proofs.Common.{◌≡◌, drop, string_bytes}
use Rattle.mad_list_columns.specs.Drawing.{shown_from}
use Rattle.mad_list_columns.specs.Writing.{HasBody}
use Rattle.mad_list_columns.proofs.drawing.push_body.Given as goal

abbrev pub invariant-loop-r : goal.invariant-loop-r
invariant-loop-r g l = record {
  left : shown_from l.rows.rows l.next ≡ drop l.r (shown_from l.rows.rows l.rows.scroll);
  written : HasBody g.E.CellExtract.extracts l.style l.columns l.area l.rows l.r (string_bytes l.initial.bytes) (string_bytes l.bytes);
}
