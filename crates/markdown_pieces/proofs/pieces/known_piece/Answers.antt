use Rattle.std.proofs.Common.{cond, ap, ◌∙◌}
use Rattle.markdown_pieces.specs.Pieces.{ends_line, break_piece}
use Rattle.markdown_pieces.proofs.PlainLemmas.{plain_piece_same}
use Rattle.markdown_pieces.proofs.pieces.known_piece.Goals as goal

pub returns : goal.returns
returns c =
    c.no_mark_piece-2.ensures
    ∙ ap (λ p. cond (ends_line c.args.rest.now) (break_piece c.args.rest.now) p)
    (plain_piece_same c.args.free c.args.before c.args.b c.args.rest.now (c.requires.web c.if-known-2.false) (c.requires.mail c.if-known.false))
