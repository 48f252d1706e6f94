use Rattle.mad_wrap.proofs.ExampleLemmas.{glued, lost_flags, cut_at_the_width, token_a_line, trailing_blanks, one_start, early_start}
use Rattle.mad_wrap.proofs.examples.wrong_answers.Goals as goal

pub returns-clause-glued : goal.returns-clause-glued
returns-clause-glued c = glued

pub returns-clause-lost_flags : goal.returns-clause-lost_flags
returns-clause-lost_flags c = lost_flags

pub returns-clause-cut_at_the_width : goal.returns-clause-cut_at_the_width
returns-clause-cut_at_the_width c = cut_at_the_width

pub returns-clause-token_a_line : goal.returns-clause-token_a_line
returns-clause-token_a_line c = token_a_line

pub returns-clause-trailing_blanks : goal.returns-clause-trailing_blanks
returns-clause-trailing_blanks c = trailing_blanks

pub returns-clause-one_start : goal.returns-clause-one_start
returns-clause-one_start c = one_start

pub returns-clause-early_start : goal.returns-clause-early_start
returns-clause-early_start c = early_start
