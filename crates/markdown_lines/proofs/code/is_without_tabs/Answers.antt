use Rattle.std.proofs.Common.{not, ap, ◌∙◌}
use Rattle.markdown_lines.proofs.CodeLemmas.{no_tab}
use Rattle.markdown_lines.proofs.code.is_without_tabs.Goals as goal

pub returns : goal.returns
returns c = λ h. no_tab c.args.text.now c.memchr.result c.memchr.ensures (c.is_none.ensures ∙ ap not h)
