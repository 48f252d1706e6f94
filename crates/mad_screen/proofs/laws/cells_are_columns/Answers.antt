use Rattle.mad_screen.proofs.PaintingLemmas.{length-cells_of}
use Rattle.mad_screen.proofs.laws.cells_are_columns.Goals as goal

pub returns : goal.returns
returns c = length-cells_of
