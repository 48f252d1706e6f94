use Rattle.std.proofs.Common.{take}
use Rattle.std.specs.List.{AllByRecursion}
use Rattle.mad_links.proofs.WritingLemmas.{IsKnownPiece}
use Rattle.mad_links.proofs.rows.know_pieces.Given as goal

abbrev pub invariant-loop-piece : goal.invariant-loop-piece
invariant-loop-piece l = AllByRecursion IsKnownPiece (take l.piece-index l.pieces)
