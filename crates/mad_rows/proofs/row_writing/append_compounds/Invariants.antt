use Rattle.std.proofs.Common.{◌≡◌, ◌++◌, string_bytes, take, map}
use Rattle.mad_draw.specs.Pieces.{pieces_bytes}
use Rattle.mad_rows.specs.Rows.{compound_piece}
use Rattle.mad_rows.proofs.row_writing.append_compounds.Given as goal

abbrev pub invariant-loop-compound : goal.invariant-loop-compound
invariant-loop-compound l = string_bytes l.rows ≡ string_bytes l.fn.rows ++ pieces_bytes (map (compound_piece l.skin l.style) (take l.compound-index l.compounds))
