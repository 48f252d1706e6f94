use Rattle.mad_blocks.proofs.ExampleLayouts.{margins_tested_again, long_line_left, last_lines_width}
use Rattle.mad_blocks.proofs.laws.wrong_layouts.Goals as goal

pub returns-clause-margins_tested_again : goal.returns-clause-margins_tested_again
returns-clause-margins_tested_again c = margins_tested_again

pub returns-clause-long_line_left : goal.returns-clause-long_line_left
returns-clause-long_line_left c = long_line_left

pub returns-clause-last_lines_width : goal.returns-clause-last_lines_width
returns-clause-last_lines_width c = last_lines_width
