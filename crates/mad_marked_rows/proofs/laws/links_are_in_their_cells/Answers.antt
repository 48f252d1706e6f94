use Rattle.mad_marked_rows.proofs.LinkLawLemmas.{line_leads}
use Rattle.mad_marked_rows.proofs.laws.links_are_in_their_cells.Goals as goal

pub returns : goal.returns
returns c = line_leads
