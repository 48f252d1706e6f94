use Rattle.std.proofs.Common.{rules}
use Rattle.markdown_lines.specs.Runs.{are_bordered, runs_said}
use Rattle.markdown_lines.proofs.runs.Runs.new.Goals as goal

pub invariant_of-result : goal.invariant_of-result
unfolding are_bordered
invariant_of-result c = record { bordered = search rules }

pub returns : goal.returns
unfolding runs_said
returns c = search rules
