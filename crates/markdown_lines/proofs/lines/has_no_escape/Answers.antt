use Rattle.std.proofs.Common.{not, ap, ◌∙◌}
use Rattle.markdown_lines.proofs.CellTextLemmas.{no_escape}
use Rattle.markdown_lines.proofs.lines.has_no_escape.Goals as goal

pub returns : goal.returns
returns c = λ h. no_escape c.args.cell.now c.memchr.result c.memchr.ensures (c.is_none.ensures ∙ ap not h)
