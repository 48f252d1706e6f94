use Rattle.std.proofs.Common.{ℕ, List, drop, take, ap, ◌∙◌}
use Rattle.markdown_spans.specs.Attributes.{html_shown}
use Rattle.markdown_pieces.specs.declared.pieces.Kind.TheVariants.{Html as HtmlKind}
use Rattle.markdown_pieces.specs.Pieces.{piece, html_by, html_piece}
use Rattle.markdown_pieces.proofs.pieces.html_piece.Goals as goal

pub returns-in-Some : goal.returns-in-Some
unfolding html_piece
returns-in-Some c =
    let after : List ℕ = drop c.args.at c.args.text.now in
    let len : ℕ = c.in-Some.len in
    c.piece_of.ensures ∙ ap (λ h. piece (HtmlKind h) len) (c.html_shown.ensures ∙ ap html_shown (c.bytes_up_to.ensures ∙ ap (take len) c.tail.ensures)) ∙ ap (html_by after) c.in-Some.ensures.value
