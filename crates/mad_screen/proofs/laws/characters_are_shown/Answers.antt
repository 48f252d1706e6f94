use Rattle.std.specs.Str.{chars}
use Rattle.mad_screen.specs.Grid.{painted}
use Rattle.mad_screen.specs.Painting.{cells_of}
use Rattle.mad_screen.proofs.PaintingLemmas.{text_leads}
use Rattle.mad_screen.proofs.Paints.{read_leads}
use Rattle.mad_screen.proofs.laws.characters_are_shown.Goals as goal

pub returns : goal.returns
returns c = λ g text is_text shown columns. read_leads g (painted g (cells_of g.pen (chars text))) text is_text (text_leads (chars text) g shown columns)
