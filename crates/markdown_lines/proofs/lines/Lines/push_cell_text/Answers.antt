use Rattle.std.proofs.Common.{length}
use Rattle.markdown_lines.specs.Said.{said}
use Rattle.markdown_lines.proofs.LineLemmas.{within_more}
use Rattle.markdown_lines.proofs.lines.Lines.push_cell_text.Goals as goal

pub invariant_of-self : goal.invariant_of-self
invariant_of-self c = record { within = within_more (length (said c.args.self.now.runs)) (length (said c.read_cell.new.runs)) c.args.self.now.lines.items c.read_cell.ensures.grows c.args.self.now.within }
