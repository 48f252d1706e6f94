use Rattle.std.proofs.Common.{rules}
use Rattle.markdown_lines.specs.Lines.{all_within, lines_said}
use Rattle.markdown_lines.proofs.lines.Lines.new.Goals as goal

pub invariant_of-result : goal.invariant_of-result
unfolding all_within
invariant_of-result c = record { within = search rules }

pub returns : goal.returns
unfolding lines_said
returns c = search rules
