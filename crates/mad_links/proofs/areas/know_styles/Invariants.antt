use Rattle.std.proofs.Common.{map, take}
use Rattle.mad_draw.specs.Pieces.{AreKnown}
use Rattle.mad_links.specs.Pieces.{piece_of}
use Rattle.mad_links.specs.LinkedAreas.{without_links}
use Rattle.mad_links.proofs.areas.know_styles.Given as goal

abbrev pub invariant-loop-piece : goal.invariant-loop-piece
invariant-loop-piece l = AreKnown (without_links (map piece_of (take l.piece-index l.pieces)))
