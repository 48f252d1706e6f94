use Rattle.mad_links.proofs.WritingLemmas.{one_more_piece, all_known}
use Rattle.mad_links.proofs.rows.know_pieces.Goals as goal

pub loop-piece-preserved : goal.loop-piece-preserved
loop-piece-preserved c = one_more_piece c.args.pieces.now c.loop-piece.piece-index c.piece-item.result c.loop-piece-test.true c.piece-item.is c.loop-piece.invariant c.know_piece.ensures

pub returns : goal.returns
returns c = all_known c.args.pieces.now c.loop-piece.piece-index c.loop-piece-test.false c.loop-piece.invariant
