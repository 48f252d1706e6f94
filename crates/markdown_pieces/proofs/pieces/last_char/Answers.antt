use Rattle.markdown_pieces.proofs.EndLemmas.{last_is, last_none}
use Rattle.markdown_pieces.proofs.pieces.last_char.Goals as goal

pub returns-in-None : goal.returns-in-None
returns-in-None c = last_none c.args.text.now c.in-None.ensures

pub returns-in-Some : goal.returns-in-Some
returns-in-Some c = last_is c.args.text.now c.in-Some.field-0-0.now c.in-Some.c c.utf8.text c.in-Some.ensures.0 c.in-Some.ensures.1
