use Rattle.std.proofs.Common.{ℕ, ◌==◌, ◌∙◌, sym, ap, length}
use Rattle.markdown_lines.specs.Said.{said}
use Rattle.markdown_lines.proofs.LineLemmas.{count_lines}
use Rattle.markdown_lines.proofs.lines.Lines.is_empty.Goals as goal

pub returns : goal.returns
returns c = c.is_empty.ensures ∙ ap (λ (n : ℕ). n == 0) (ap length c.as_slice.ensures.value ∙ sym (count_lines (said c.args.self.now.runs) c.args.self.now.lines.items))
