use Rattle.std.proofs.Common.{◌≡◌, ◌++◌}
use Rattle.std.specs.Prelude.{string_bytes}
use Rattle.std.specs.List.{repeat}
use Rattle.mad_draw.specs.Pieces.{pieces_bytes, spaces}
use Rattle.mad_field_rows.proofs.row_pieces.push_blanks.Given as goal

abbrev pub invariant-loop-done : goal.invariant-loop-done
invariant-loop-done l = string_bytes l.bytes ≡ string_bytes l.initial.bytes ++ repeat l._done (pieces_bytes (spaces l.style l.most))
