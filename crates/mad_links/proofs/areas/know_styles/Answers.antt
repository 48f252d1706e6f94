use Rattle.mad_links.proofs.AreaLemmas.{style_more, styles_all}
use Rattle.mad_links.proofs.areas.know_styles.Goals as goal

pub loop-piece-preserved : goal.loop-piece-preserved
loop-piece-preserved c = style_more c.args.pieces.now c.loop-piece.piece-index c.piece-item.result c.loop-piece-test.true c.piece-item.is c.loop-piece.invariant c.know_style.ensures

pub returns : goal.returns
returns c = styles_all c.args.pieces.now c.loop-piece.piece-index c.loop-piece-test.false c.loop-piece.invariant
