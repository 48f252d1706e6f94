use Rattle.std.proofs.Common.{sym, ◌∙◌}
use Rattle.markdown_blocks.proofs.TextLemmas.{end_position}
use Rattle.markdown_blocks.proofs.lines.line_len.Goals as goal

pub returns-clause-value : goal.returns-clause-value
returns-clause-value c = c.unwrap_or.ensures ∙ sym (end_position c.args.text.now c.memchr2.result c.memchr2.ensures)
