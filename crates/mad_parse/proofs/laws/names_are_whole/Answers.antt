use Rattle.mad_parse.proofs.Examples.{other_color, centered}
use Rattle.mad_parse.proofs.laws.names_are_whole.Goals as goal

pub returns : goal.returns
returns c = record { other_color = other_color; no_align = centered }
