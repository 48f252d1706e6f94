use Rattle.std.proofs.Common.{◌≡◌, ◌++◌, length}
use Rattle.markdown_html_text.specs.HtmlPieces.{pieces_from, html_pieces}
use Rattle.markdown_html_text.proofs.pieces.html_pieces.Given as goal

abbrev pub invariant-loop-rest : goal.invariant-loop-rest
invariant-loop-rest l = l.pieces.items ++ pieces_from 0 l.row l.rest ≡ html_pieces l.text

abbrev pub decreases-loop-rest : goal.decreases-loop-rest
decreases-loop-rest l = length l.rest
