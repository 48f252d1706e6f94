use Rattle.markdown_lines.proofs.CellTextLemmas.{plain_text}
use Rattle.markdown_lines.proofs.lines.plain_cell.Goals as goal

pub returns : goal.returns
returns c = plain_text c.in-Ok.text.now c.args.cell.now (c.has_no_escape.ensures c.if-not-has_no_escape.false) c.in-Ok.ensures.cases.1 c.in-Ok.ensures.cases.0
