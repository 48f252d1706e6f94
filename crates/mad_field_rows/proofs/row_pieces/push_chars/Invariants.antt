use Rattle.std.proofs.Common.{◌≡◌, ◌++◌}
use Rattle.std.specs.Prelude.{string_bytes}
use Rattle.mad_draw.specs.Pieces.{pieces_bytes}
use Rattle.mad_field_rows.specs.RowPieces.{char_pieces}
use Rattle.mad_field_rows.proofs.row_pieces.push_chars.Given as goal

abbrev pub invariant-loop-c : goal.invariant-loop-c
invariant-loop-c l = string_bytes l.bytes ≡ string_bytes l.initial.bytes ++ pieces_bytes (char_pieces l.marked l.others l.yielded)
