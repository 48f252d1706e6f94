use Rattle.std.proofs.Common.{not, ap, ◌∙◌}
use Rattle.markdown_lines.proofs.CutLemmas.{no_break}
use Rattle.markdown_lines.proofs.WholeCellLemmas.{none_found}
use Rattle.markdown_lines.proofs.whole_cells.is_unbroken.Goals as goal

pub returns : goal.returns
returns c = λ h. no_break c.args.text.now (none_found c.args.text.now c.memchr.result c.memchr.ensures (c.is_none.ensures ∙ ap not h))
