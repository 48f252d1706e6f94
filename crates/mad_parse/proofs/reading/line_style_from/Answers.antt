use Rattle.mad_parse.proofs.StyleLemmas.{line_done}
use Rattle.mad_parse.proofs.reading.line_style_from.Goals as goal

pub returns : goal.returns
returns c = line_done _ _ _ _ c.loop-token-test.false c.loop-token.invariant
