use Rattle.mad_screen.specs.Grid.{painted}
use Rattle.mad_screen.proofs.Paints.{read_leads}
use Rattle.mad_screen.proofs.laws.painted_cells_are_read.Goals as goal

pub returns : goal.returns
returns c = λ g bytes cells paints pen columns. read_leads g (painted g cells) bytes paints.text (paints.paints g columns pen)
