use Rattle.std.proofs.Common.{take, List, ℕ, Bor}
use Rattle.std.specs.List.{flat_map}
use Rattle.markdown_stream.proofs.PieceLemmas.{PiecesFed}
use Rattle.markdown_stream.proofs.pieces.write_markdown_pieces_on.Given as goal

abbrev pub invariant-loop-piece : goal.invariant-loop-piece
invariant-loop-piece g l = PiecesFed l.fn.skin l.fn.width (flat_map (λ (p : Bor (List ℕ)). p.now) (take l.piece-index l.pieces)) l.stream (g.O.Out.seen l.fn.out) (g.O.Out.seen l.out)
