use Rattle.mad_parse.proofs.StyleLemmas.{style_done}
use Rattle.mad_parse.proofs.reading.compound_style_from.Goals as goal

pub returns : goal.returns
returns c = style_done _ _ _ _ c.loop-token-test.false c.loop-token.invariant
