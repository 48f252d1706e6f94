use Rattle.markdown_live.proofs.PieceLemmas.{LiveSoFar}
use Rattle.markdown_live.proofs.pieces.show_markdown_pieces_on.Given as goal

abbrev pub invariant-loop-piece : goal.invariant-loop-piece
invariant-loop-piece g l = LiveSoFar l.fn.skin l.fn.width l.fn.height l.pieces l.piece-index l.live (g.O.Out.seen l.fn.out) (g.O.Out.seen l.out)
