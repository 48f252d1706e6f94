use Rattle.std.proofs.Common.{◌∙◌, sym, ap, length}
use Rattle.markdown_lines.specs.Said.{said}
use Rattle.markdown_lines.proofs.LineLemmas.{count_lines}
use Rattle.markdown_lines.proofs.lines.Lines.count.Goals as goal

pub returns : goal.returns
returns c = ap length c.as_slice.ensures.value ∙ sym (count_lines (said c.args.self.now.runs) c.args.self.now.lines.items)
