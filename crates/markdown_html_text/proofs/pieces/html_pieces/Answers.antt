use Rattle.std.proofs.Common.{ℕ, ◌++◌, List, sym, ap, subst, ◌∙◌, arith}
use Rattle.markdown_pieces.specs.Places.{AreCut}
use Rattle.markdown_pieces.specs.declared.pieces.Piece.{Piece}
use Rattle.markdown_html_text.specs.HtmlPieces.{pieces_from}
use Rattle.markdown_html_text.proofs.PieceLemmas.{after_first_byte, html_placed, pieces_all, pieces_next}
use Rattle.markdown_html_text.proofs.pieces.html_pieces.Goals as goal

pub loop-rest-preserved : goal.loop-rest-preserved
loop-rest-preserved c =
    ap (λ (l : List ℕ). c.push.new.self.items ++ pieces_from 0 c.step.result.1 l) c.bytes_from-rest.ensures
    ∙ pieces_next c.loop-rest.rest.now _ c.loop-rest.row c.step.result.1 c.loop-rest.pieces.items c.push.new.self.items _ c.step.result.0 (omega (arith, c.in-len1-up.len_at_least))
    (after_first_byte c.loop-rest.rest.now) c.loop-rest.invariant c.step.ensures.piece c.step.ensures.row c.in_ok-push.ensures.items

pub returns-clause-pieces : goal.returns-clause-pieces
returns-clause-pieces c = pieces_all c.loop-rest.rest.now c.loop-rest.row c.loop-rest.pieces.items _ (omega (arith, c.in_default.len_below)) c.loop-rest.invariant

pub returns-clause-cut : goal.returns-clause-cut
returns-clause-cut c =
    subst (λ (l : List Piece). AreCut c.args.text.now 0 l) (sym (pieces_all c.loop-rest.rest.now c.loop-rest.row c.loop-rest.pieces.items _ (omega (arith, c.in_default.len_below)) c.loop-rest.invariant))
    (html_placed c.args.text.now c.utf8.text)
