use Rattle.std.proofs.Common.{◌≡◌, ◌++◌, map, drop, string_bytes}
use Rattle.mad_links.specs.LinkRows.{linked_bytes, linked_bytes_from}
use Rattle.mad_links.specs.Pieces.{piece_of}
use Rattle.mad_links.proofs.rows.push_linked.Given as goal

abbrev pub invariant-loop-piece : goal.invariant-loop-piece
invariant-loop-piece l = string_bytes l.fn.row ++ linked_bytes l.addresses (map piece_of l.pieces) ≡ string_bytes l.row ++ linked_bytes_from l.addresses l.was (map piece_of (drop l.piece-index l.pieces))
