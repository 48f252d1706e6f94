use Rattle.std.proofs.Common.{◌≡◌, ◌++◌, string_bytes}
use Rattle.std.specs.List.{flat_map}
use Rattle.std.specs.Vec.Iter.{into_iter_items}
use Rattle.mad_plain.specs.Rows.{rows_by}
use Rattle.mad_plain.specs.Shown.{rest_of, shown_of}
use Rattle.mad_plain_rows.specs.PlainRows.{row_bytes, shown_bytes}
use Rattle.mad_plain_rows.proofs.lines.push_shown.Given as goal

abbrev pub invariant-loop-end : goal.invariant-loop-end
invariant-loop-end l =
    string_bytes l.text ++ flat_map (row_bytes l.fn.is_styled) (rows_by l.at (into_iter_items l.end-iterator) (rest_of l.rest))
    ≡ string_bytes l.fn.text ++ shown_bytes l.fn.width l.fn.is_styled (shown_of l.fn.line)
