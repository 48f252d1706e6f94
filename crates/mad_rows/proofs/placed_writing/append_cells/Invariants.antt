use Rattle.std.proofs.Common.{◌≡◌, ◌++◌, string_bytes, take}
use Rattle.std.specs.List.{flat_map}
use Rattle.mad_draw.specs.Pieces.{pieces_bytes}
use Rattle.mad_rows.specs.Rows.{cell_pieces}
use Rattle.mad_rows.proofs.placed_writing.append_cells.Given as goal

abbrev pub invariant-loop-cell : goal.invariant-loop-cell
invariant-loop-cell l = string_bytes l.rows ≡ string_bytes l.fn.rows ++ pieces_bytes (flat_map (cell_pieces l.skin) (take l.cell-index l.cells))
