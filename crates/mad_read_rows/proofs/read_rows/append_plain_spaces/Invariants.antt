use Rattle.std.proofs.Common.{◌≡◌, ◌++◌, string_bytes}
use Rattle.mad_draw.specs.Pieces.{pieces_bytes, single_spaces}
use Rattle.mad_read_rows.proofs.read_rows.append_plain_spaces.Given as goal

abbrev pub invariant-loop-done : goal.invariant-loop-done
invariant-loop-done l = string_bytes l.rows ≡ string_bytes l.fn.rows ++ pieces_bytes (single_spaces l.style l._done)
